-- The text up to the first 00, by where that 00 stands.
use Rattle.std.proofs.Common.{◌≡◌, ℕ, zero, suc, ◌+◌, ◌<◌, ◌≤◌, ◌≢◌, List, [], ◌∷◌, length, take, drop, slice_index, Option, None, Some, refl, ap, arith}
use Rattle.std.specs.Option.{option_map_or}
use Rattle.std.proofs.lemmas.Bool.{eqb-true, eq-eqb}
use Rattle.std.proofs.lemmas.List.{length-take-le}
use Rattle.memchr.specs.Find.{IsFirstByte, is_byte}
use Rattle.yr_modules.specs.Pe.Sections.{before_zero}

-- where no byte is 00 all bytes stand before it
before_zero-all : (bs : List ℕ) → ((k : ℕ) → k < length bs → slice_index bs k ≢ 0) → before_zero bs ≡ bs
before_zero-all [] h = refl
before_zero-all (zero ∷ bs) h = absurd (h 0 (omega arith) refl)
before_zero-all (suc b ∷ bs) h = ap (λ t. suc b ∷ t) (before_zero-all bs (λ k lt. h (suc k) (omega arith)))

-- the text before the first 00
before_zero-at : (bs : List ℕ) (k : ℕ) → k < length bs → ((j : ℕ) → j < k → slice_index bs j ≢ 0) → slice_index bs k ≡ 0 → before_zero bs ≡ take k bs
before_zero-at [] k lt before at = absurd (omega arith)
before_zero-at (zero ∷ bs) zero lt before at = refl
before_zero-at (zero ∷ bs) (suc k) lt before at = absurd (before 0 (omega arith) refl)
before_zero-at (suc b ∷ bs) zero lt before at = absurd (omega arith)
before_zero-at (suc b ∷ bs) (suc k) lt before at =
    ap (λ t. suc b ∷ t) (before_zero-at bs k (omega arith) (λ j h. before (suc j) (omega arith)) at)

-- both, by what a search for 00 answers
pub before_zero-none : (bs : List ℕ) → IsFirstByte (is_byte 0) bs None → before_zero bs ≡ bs
before_zero-none bs h = before_zero-all bs (λ k lt e. h k (omega arith) lt (eq-eqb _ _ e))

pub before_zero-first : (bs : List ℕ) (k : ℕ) → IsFirstByte (is_byte 0) bs (Some k) → before_zero bs ≡ take k bs
before_zero-first bs k h =
    before_zero-at bs k h.0.high (λ j lt e. h.0.before j (omega arith) lt (eq-eqb _ _ e)) (eqb-true _ _ h.1)

-- the text is not longer than what it stands in
pub before_zero-short : (bs : List ℕ) → length (before_zero bs) ≤ length bs
before_zero-short [] = omega arith
before_zero-short (zero ∷ bs) = omega arith
before_zero-short (suc b ∷ bs) = omega (arith, before_zero-short bs)
