-- The text up to the first 00, by where that 00 stands.
use Rattle.std.proofs.Common.{◌≡◌, ℕ, zero, suc, ◌+◌, ◌-◌, ◌<◌, ◌≤◌, ◌≢◌, List, [], ◌∷◌, length, take, drop, slice_index, Option, None, Some, refl, sym, ap, ◌∙◌, arith}
use Rattle.std.specs.Option.{option_map}
use Rattle.std.proofs.lemmas.Bool.{eqb-true, eq-eqb}
use Rattle.std.proofs.lemmas.List.{take_rest}
use Rattle.memchr.specs.Find.{IsFirstByte, is_byte}
use Rattle.std.specs.Prelude.{ℤ, IfSome}
use Rattle.std.proofs.lemmas.List.{length-drop}
use Rattle.yr_modules.specs.declared.elf.layout.Layout.{Layout}
use Rattle.yr_modules.specs.Elf.Rows.{number_in, sh_name, sh_offset}
use Rattle.yr_modules.specs.Elf.Entries.{section_place}
use Rattle.yr_modules.specs.Elf.Names.{until_zero, text_at, name_between, strings_place, section_name}

-- where no byte is 00 there is no such text
until_zero-none : (bs : List ℕ) → ((k : ℕ) → k < length bs → slice_index bs k ≢ 0) → until_zero bs ≡ None
until_zero-none [] h = refl
until_zero-none (zero ∷ bs) h = absurd (h 0 (omega arith) refl)
until_zero-none (suc b ∷ bs) h =
    ap (option_map (λ t. suc b ∷ t)) (until_zero-none bs (λ k lt. h (suc k) (omega arith)))

-- the text before the first 00
until_zero-at : (bs : List ℕ) (k : ℕ) → k < length bs → ((j : ℕ) → j < k → slice_index bs j ≢ 0) → slice_index bs k ≡ 0 → until_zero bs ≡ Some (take k bs)
until_zero-at [] k lt before at = absurd (omega arith)
until_zero-at (zero ∷ bs) zero lt before at = refl
until_zero-at (zero ∷ bs) (suc k) lt before at = absurd (before 0 (omega arith) refl)
until_zero-at (suc b ∷ bs) zero lt before at = absurd (omega arith)
until_zero-at (suc b ∷ bs) (suc k) lt before at =
    ap (option_map (λ t. suc b ∷ t)) (until_zero-at bs k (omega arith) (λ j h. before (suc j) (omega arith)) at)

-- both, by what a search for 00 answers
pub until_zero-first : (bs : List ℕ) (r : Option ℕ) → IsFirstByte (is_byte 0) bs r → until_zero bs ≡ option_map (λ k. take k bs) r
until_zero-first bs None h = until_zero-none bs (λ k lt e. h k (omega arith) lt (eq-eqb _ _ e))
until_zero-first bs (Some k) h =
    until_zero-at bs k h.0.high (λ j lt e. h.0.before j (omega arith) lt (eq-eqb _ _ e)) (eqb-true _ _ h.1)

-- the same of the rest of a file
pub text_at-first : (file : List ℕ) (at : ℕ) (r : Option ℕ) → IsFirstByte (is_byte 0) (take (length file - at) (drop at file)) r → text_at file at ≡ option_map (λ k. take k (take (length file - at) (drop at file))) r
text_at-first file at r h = ap until_zero (sym (take_rest file at)) ∙ until_zero-first (take (length file - at) (drop at file)) r h

-- a text is not longer than what it stands in
longer : (b n : ℕ) (o : Option (List ℕ)) → IfSome o (λ t. length t ≤ n) → IfSome (option_map (λ t. b ∷ t) o) (λ t. length t ≤ suc n)
longer b n None h = tt
longer b n (Some t) h = omega arith

until_zero-short : (bs : List ℕ) → IfSome (until_zero bs) (λ t. length t ≤ length bs)
until_zero-short [] = tt
until_zero-short (zero ∷ bs) = omega arith
until_zero-short (suc b ∷ bs) = longer (suc b) (length bs) (until_zero bs) (until_zero-short bs)

within_more : (n m : ℕ) (o : Option (List ℕ)) → n ≤ m → IfSome o (λ t. length t ≤ n) → IfSome o (λ t. length t ≤ m)
within_more n m None le h = tt
within_more n m (Some t) le h = omega arith

text_at-short : (file : List ℕ) (at : ℕ) → IfSome (text_at file at) (λ t. length t ≤ length file)
text_at-short file at =
    within_more (length (drop at file)) (length file) (text_at file at) (omega (arith, length-drop at file)) (until_zero-short (drop at file))

name_between-short : (l : Layout) (file : List ℕ) (at strings : Option ℕ) → IfSome (name_between l file at strings) (λ t. length t ≤ length file)
name_between-short l file None strings = tt
name_between-short l file (Some at) None = tt
name_between-short l file (Some at) (Some strings) =
    text_at-short file (number_in l file strings sh_offset + number_in l file at sh_name)

pub section_name-short : (l : Layout) (file : List ℕ) (index : ℤ) → IfSome (section_name l file index) (λ t. length t ≤ length file)
section_name-short l file index = name_between-short l file (section_place l file index) (strings_place l file)
