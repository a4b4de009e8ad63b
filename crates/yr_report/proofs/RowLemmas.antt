-- Rows of a wellformed image are there.
use Rattle.std.proofs.Common.{◌≡◌, ℕ, zero, suc, ◌+◌, ◌-◌, ◌<◌, ◌≤◌, ◌^◌, ◌==◌, ◌&&◌, ◌||◌, Bool, true, false, nat_le, nat_lt, List, [], ◌∷◌, length, take, drop, Some, refl, sym, ap, ◌∙◌, arith}
use Rattle.std.specs.Prelude.{slice_get}
use Rattle.std.specs.Option.{option_map_or}
use Rattle.std.proofs.Math.Nat.{div-le_self}
use Rattle.std.proofs.lemmas.Bool.Decides.{Decides-eqb}
use Rattle.std.proofs.lemmas.Bool.{ltb-true}
use Rattle.std.proofs.lemmas.Option.{slice_get_within}
use Rattle.yr_rows.proofs.RowLemmas.{length-rows_in}
use Rattle.yr_image.specs.declared.fault.ImageFault.TheVariants.{Index}
use Rattle.yr_image.specs.declared.rows.RuleRow.{RuleRow}
use Rattle.yr_image.specs.Image.{Image, in_pool}
use Rattle.yr_image.specs.Reading.{image_in, rule_row, note_row, string_row}
use Rattle.yr_image.specs.Sections.{rule_width, version_in, size_of, place_of, bytes_of}
use Rattle.yr_machine.specs.Rows.{end_before, notes_end, strings_end, code_end, ends_sections, is_good_rule, is_good_without_rules, row_passes}
use Rattle.yr_machine.specs.Wellformed.{IsWellformed}
use Rattle.yr_machine.proofs.CallerLemmas.{has_sections}
use Rattle.yr_report.specs.Scenes.{HasRanges}
use Rattle.yr_report.proofs.CallerLemmas.{rule_count}
use Rattle.yr_report.proofs.RangeLemmas.{there}

-- ---- sizes

take-less : (n : ℕ) (xs : List ℕ) → length (take n xs) ≤ length xs
take-less zero [] = omega arith
take-less zero (x ∷ xs) = omega arith
take-less (suc n) [] = omega arith
take-less (suc n) (x ∷ xs) = omega (arith, take-less n xs)

drop-less : (n : ℕ) (xs : List ℕ) → length (drop n xs) ≤ length xs
drop-less zero [] = omega arith
drop-less zero (x ∷ xs) = omega arith
drop-less (suc n) [] = omega arith
drop-less (suc n) (x ∷ xs) = omega (arith, drop-less n xs)

section-small : (bytes : List ℕ) (k : ℕ) → IsWellformed bytes → length (bytes_of bytes k) < 2 ^ 32
section-small bytes k w =
    let whole = (has_sections bytes w).whole in
    omega (arith, whole.0, whole.1, take-less (size_of bytes k) (drop (place_of bytes k) bytes), drop-less (place_of bytes k) bytes)

pub few-rules : (bytes : List ℕ) → IsWellformed bytes → length (image_in bytes).rules < 2 ^ 32
few-rules bytes w =
    let width = rule_width (version_in bytes) in
    let part = bytes_of bytes 0 in
    omega (arith, length-rows_in width (rule_row (version_in bytes)) part, div-le_self (length part) width, section-small bytes 0 w)

pub most-rules : (bytes : List ℕ) → IsWellformed bytes → length (image_in bytes).rules ≤ 65535
most-rules bytes w =
    let has = has_sections bytes w in
    omega (arith, rule_count bytes has, (has.sections 0 (omega arith)).rules refl)

few-notes : (bytes : List ℕ) → IsWellformed bytes → length (image_in bytes).notes < 2 ^ 32
few-notes bytes w =
    let part = bytes_of bytes 1 in
    omega (arith, length-rows_in 24 note_row part, div-le_self (length part) 24, section-small bytes 1 w)

few-strings : (bytes : List ℕ) → IsWellformed bytes → length (image_in bytes).strings < 2 ^ 32
few-strings bytes w =
    let part = bytes_of bytes 3 in
    omega (arith, length-rows_in 16 string_row part, div-le_self (length part) 16, section-small bytes 3 w)

-- ---- ranges

and-first : (a b : Bool) → (a && b) ≡ true → a ≡ true
and-first true b h = refl
and-first false b h = h

and-second : (a b : Bool) → (a && b) ≡ true → b ≡ true
and-second true b h = h
and-second false b h = cc

or-second : (a b : Bool) → (a || b) ≡ true → a ≡ false → b ≡ true
or-second true b h f = cc
or-second false b h f = h

equal : (a b : ℕ) → (a == b) ≡ true → a ≡ b
equal a b h = (Decides-eqb a b).0 h

not-less : (a b : ℕ) → a ≡ b → nat_lt a b ≡ false
not-less a b e = decided (nat_lt a b) (λ t. omega (arith, ltb-true a b t, e))
  where
    decided : (t : Bool) → (t ≡ true → ⊥) → t ≡ false
    decided true none = absurd (none refl)
    decided false none = refl

-- where the notes and the strings of rule k begin, and where they end if it is the last
record IsPlaced (image : Image) (k : ℕ) (row : RuleRow) : Type 0 where
  pub notes : row.first_note ≡ end_before notes_end image.rules k
  pub strings : row.first_string ≡ end_before strings_end image.rules k
  pub last : k + 1 ≡ length image.rules → (notes_end row ≡ length image.notes) × (strings_end row ≡ length image.strings)

placed : (image : Image) (k : ℕ) (row : RuleRow) → is_good_rule image k row ≡ true → IsPlaced image k row
placed image k row h0 =
    let h1 = and-second (in_pool image row.name_place row.name_length) _ h0 in
    let h2 = and-second (in_pool image row.namespace_place row.namespace_length) _ h1 in
    let h3 = and-second (nat_le row.flags 3) _ h2 in
    let h4 = and-second (row.first_note == end_before notes_end image.rules k) _ h3 in
    let h5 = and-second (row.first_string == end_before strings_end image.rules k) _ h4 in
    let h6 = and-second (row.first_code == end_before code_end image.rules k) _ h5 in
    let h7 = and-second (nat_lt 0 row.code_rows) _ h6 in
    record {
      notes = equal row.first_note (end_before notes_end image.rules k) (and-first (row.first_note == end_before notes_end image.rules k) _ h3);
      strings = equal row.first_string (end_before strings_end image.rules k) (and-first (row.first_string == end_before strings_end image.rules k) _ h4);
      last = λ e.
          let ends = or-second (nat_lt (k + 1) (length image.rules)) (ends_sections image row) h7 (not-less (k + 1) (length image.rules) e) in
          let rest = and-second (notes_end row == length image.notes) _ ends in (
            equal (notes_end row) (length image.notes) (and-first (notes_end row == length image.notes) _ ends),
            equal (strings_end row) (length image.strings) (and-first (strings_end row == length image.strings) _ rest),
          );
    }

passes-at : {A : Type 0} (image : Image) (test : A → Bool) (rows : List A) (k : ℕ) (row : A) → row_passes image test rows k ≡ true → slice_get rows k ≡ Some row → test row ≡ true
passes-at image test rows k row h e = ap (λ o. option_map_or test o true) (sym e) ∙ h

module _ (image : Image) (good : (k : ℕ) (row : RuleRow) → slice_get image.rules k ≡ Some row → IsPlaced image k row) where
  -- each row ends before the next begins, and the last ends with its section
  within : (left k : ℕ) (row : RuleRow) → k + suc left ≡ length image.rules → slice_get image.rules k ≡ Some row
      → (notes_end row ≤ length image.notes) × (strings_end row ≤ length image.strings)
  within zero k row e at =
      let ends = (good k row at).last e in (omega (arith, ends.0), omega (arith, ends.1))
  within (suc left) k row e at =
      let next = there image.rules (suc k) (omega (arith, e)) in
      let later = within left (suc k) next.0 (omega (arith, e)) next.1 in
      let begins = good (suc k) next.0 next.1 in
      let notes : next.0.first_note ≡ notes_end row = begins.notes ∙ ap (λ o. option_map_or notes_end o 0) at in
      let strings : next.0.first_string ≡ strings_end row = begins.strings ∙ ap (λ o. option_map_or strings_end o 0) at in
      (omega (arith, later.0, notes), omega (arith, later.1, strings))

pub has-ranges : (bytes : List ℕ) → IsWellformed bytes → (k : ℕ) (row : RuleRow) → slice_get (image_in bytes).rules k ≡ Some row → HasRanges (image_in bytes) row
has-ranges bytes w k row at =
    let image = image_in bytes in
    let good : (n : ℕ) (r : RuleRow) → slice_get image.rules n ≡ Some r → IsPlaced image n r = λ n r e.
    placed image n r (passes-at image (is_good_rule image n) image.rules n r (and-first (row_passes image (is_good_rule image n) image.rules n) (nat_lt 0 n || is_good_without_rules image) (w (Index 0 n))) e) in
    let lt = slice_get_within image.rules k row at in
    let last : k + suc (length image.rules - (k + 1)) ≡ length image.rules = omega (arith, lt) in
    let both = within image good (length image.rules - (k + 1)) k row last at in
    record { notes = both.0; strings = both.1; few_notes = few-notes bytes w; few_strings = few-strings bytes w }
