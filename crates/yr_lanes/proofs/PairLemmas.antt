-- Bytes that agree, and strings that agree at each place.
use Rattle.std.proofs.Common.{◌≡◌, ◌↔◌, ℕ, suc, ◌+◌, ◌%◌, ◌<◌, List, [], ◌∷◌, Bool, true, eqb, length, get_or, ap, sym, ◌∙◌, arith, bit_xor}
use Rattle.std.specs.List.{AllZip}
use Rattle.std.specs.Int.{bit_at}
use Rattle.std.proofs.lemmas.Bool.{eqb-true, eq-eqb}
use Rattle.std.proofs.lemmas.List.Elements.{AllZip-get_or}
use Rattle.std.proofs.lemmas.Nat.Bits.{bit_at_xor, bit_at-zero, bit_at-lt, same_from_bits}
use Rattle.yr_lanes.specs.Same.{AgreesAll}

-- numbers that differ in no bit
pub same_from_xor : (a b : ℕ) → bit_xor a b ≡ 0 → a ≡ b
same_from_xor a b none =
    same_from_bits a b (λ i.
    let e : (bit_at a i + bit_at b i) % 2 ≡ 0 = sym (bit_at_xor a b i) ∙ ap (λ x. bit_at x i) none ∙ bit_at-zero i in
    omega (arith, bit_at-lt a i, bit_at-lt b i))

module _ (R : ℕ → ℕ → Type 0) where
  -- two lists of one length whose elements are related at each index
  pub AllZip-from_get_or : (xs ys : List ℕ) → length xs ≡ length ys → ((k : ℕ) → k < length xs → R (get_or xs k 0) (get_or ys k 0)) → AllZip R xs ys
  AllZip-from_get_or [] [] long h = tt
  AllZip-from_get_or [] (y ∷ ys) long h = absurd (omega arith)
  AllZip-from_get_or (x ∷ xs) [] long h = absurd (omega arith)
  AllZip-from_get_or (x ∷ xs) (y ∷ ys) long h = (h 0 (omega arith), AllZip-from_get_or xs ys (omega arith) (λ k l. h (suc k) (omega arith)))

-- strings of one length agree at each place exactly where they are related all along
pub AllZip-agrees : (agrees : ℕ → ℕ → Bool) (R : ℕ → ℕ → Type 0) → ((x y : ℕ) → (agrees x y ≡ true) ↔ R x y) → (a b : List ℕ) → length a ≡ length b
    → AgreesAll agrees a b ↔ AllZip R a b
AllZip-agrees agrees R same a b long = (
  λ h. AllZip-from_get_or R a b long (λ k l. (same (get_or a k 0) (get_or b k 0)).0 (h k l)),
  λ h k l. (same (get_or a k 0) (get_or b k 0)).1 (AllZip-get_or R a b k 0 0 h l),
)

-- a test of equality
pub eqb_tells : (x y : ℕ) → (eqb x y ≡ true) ↔ (x ≡ y)
eqb_tells x y = (eqb-true x y, eq-eqb x y)
