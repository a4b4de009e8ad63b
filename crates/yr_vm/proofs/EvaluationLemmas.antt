-- The truths of the first rules, as results keep them.
use Rattle.std.proofs.Common.{◌≡◌, ℕ, zero, suc, ◌+◌, ◌/◌, ◌<◌, ◌≤◌, ◌^◌, Bool, List, [], ◌∷◌, ◌++◌, length, map, take, drop, set, Option, Some, None, refl, sym, ap, ◌∙◌, subst, arith}
use Rattle.std.specs.Prelude.{slice_get}
use Rattle.std.proofs.Math.Nat.{div-le_self}
use Rattle.std.proofs.lemmas.List.{map-append, take_more_set}
use Rattle.yr_rows.specs.Rows.{rows_in}
use Rattle.yr_rows.proofs.RowLemmas.{length-rows_in}
use Rattle.yr_base.specs.declared.value.Truth.{Truth}
use Rattle.yr_answer.specs.Truths.{is_yes, truths_shown}
use Rattle.yr_image.specs.declared.rows.RuleRow.{RuleRow}
use Rattle.yr_image.specs.declared.fault.ImageFault.TheVariants.{Code}
use Rattle.yr_image.specs.Image.{code_of}
use Rattle.yr_image.specs.Reading.{image_in, rule_row, code_row}
use Rattle.yr_image.specs.Sections.{rule_width, version_in, size_of, place_of, bytes_of}
use Rattle.yr_machine.specs.CodeWalk.{code_fault, IsWellformedCode}
use Rattle.yr_machine.specs.Wellformed.{IsWellformed}
use Rattle.yr_machine.proofs.CallerLemmas.{has_sections}

take-less : (n : ℕ) (xs : List ℕ) → length (take n xs) ≤ length xs
take-less zero [] = omega arith
take-less zero (x ∷ xs) = omega arith
take-less (suc n) [] = omega arith
take-less (suc n) (x ∷ xs) = omega (arith, take-less n xs)

drop-less : (n : ℕ) (xs : List ℕ) → length (drop n xs) ≤ length xs
drop-less zero [] = omega arith
drop-less zero (x ∷ xs) = omega arith
drop-less (suc n) [] = omega arith
drop-less (suc n) (x ∷ xs) = omega (arith, drop-less n xs)

section-small : (bytes : List ℕ) (k : ℕ) → IsWellformed bytes → length (bytes_of bytes k) < 2 ^ 32
section-small bytes k w =
    let whole = (has_sections bytes w).whole in
    omega (arith, whole.0, whole.1, take-less (size_of bytes k) (drop (place_of bytes k) bytes), drop-less (place_of bytes k) bytes)

-- rules and rows of code have numbers of 32 bits
pub rules-small : (bytes : List ℕ) → IsWellformed bytes → length (image_in bytes).rules < 2 ^ 32
rules-small bytes w =
    let width = rule_width (version_in bytes) in
    let part = bytes_of bytes 0 in
    omega (arith, length-rows_in width (rule_row (version_in bytes)) part, div-le_self (length part) width, section-small bytes 0 w)

pub code-small : (bytes : List ℕ) → IsWellformed bytes → length (image_in bytes).code < 2 ^ 32
code-small bytes w =
    let part = bytes_of bytes 12 in
    omega (arith, length-rows_in 16 code_row part, div-le_self (length part) 16, section-small bytes 12 w)

no_fault : (o : Option ℕ) → ((place : ℕ) → o ≡ Some place → ⊥) → o ≡ None
no_fault None h = refl
no_fault (Some place) h = absurd (h place refl)

-- each rule's code is wellformed
pub code-wellformed : (bytes : List ℕ) → IsWellformed bytes → (k : ℕ) (row : RuleRow) → slice_get (image_in bytes).rules k ≡ Some row →
    IsWellformedCode (image_in bytes) k (code_of (image_in bytes) row)
code-wellformed bytes w k row e = no_fault (code_fault (image_in bytes) k (code_of (image_in bytes) row)) (λ place. w (Code k place) row e)

-- one more truth
pub truths-more : (results : List Truth) (k : ℕ) (t : Truth) (b : Bool) → k < length results → is_yes t ≡ b →
    truths_shown (take (k + 1) (set results k t)) ≡ truths_shown (take k results) ++ (b ∷ [])
truths-more results k t b lt is =
    ap truths_shown (take_more_set results k t lt) ∙ map-append is_yes (take k results) (t ∷ [])
    ∙ ap (λ c. truths_shown (take k results) ++ (c ∷ [])) is
