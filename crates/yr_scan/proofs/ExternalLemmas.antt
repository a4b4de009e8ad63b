-- Externals of a wellformed image: their ranges, and the values that fit them.
use Rattle.std.proofs.Common.{◌≡◌, ◌≢◌, ℕ, zero, suc, ◌+◌, ◌*◌, ◌/◌, ◌<◌, ℤ, Bool, true, false, cond, ◌&&◌, List, [], ◌∷◌, length, map, Option, Some, None, refl, sym, ap, ◌∙◌, subst, arith}
use Rattle.std.specs.Prelude.{slice_get, nat_le, ◌==◌, if◌then◌else◌}
use Rattle.std.specs.Option.{option_map_or}
use Rattle.yr_base.specs.declared.value.Kind.{Kind}
use Rattle.yr_base.specs.declared.value.Kind.TheVariants as kind
use Rattle.yr_rows.proofs.RowLemmas.{length-rows_in}
use Rattle.yr_values.specs.Values.{Value, Undefined, Number, Flag, Text}
use Rattle.yr_values.specs.Modules.{IsOfKind}
use Rattle.yr_image.specs.declared.rows.NoteRow.{NoteRow}
use Rattle.yr_image.specs.declared.fault.ImageFault.TheVariants.{Index}
use Rattle.yr_image.specs.Image.{Image, in_pool, pool_text}
use Rattle.yr_image.specs.Reading.{image_in, note_row}
use Rattle.yr_image.specs.Sections.{HasSections, rows_of, bytes_of}
use Rattle.yr_machine.specs.ImageRun.{value_of}
use Rattle.yr_machine.specs.Roles.{kind_of_note}
use Rattle.yr_machine.specs.Rows.{is_good_external, is_good_value}
use Rattle.yr_machine.specs.Wellformed.{IsWellformed}
use Rattle.yr_hits.proofs.SectionLemmas.{section_bytes}
use Rattle.yr_outcome.specs.Externals.{same_kind}

pub external_rows : (bytes : List ℕ) → HasSections bytes → length (image_in bytes).externals ≡ rows_of bytes 2
external_rows bytes has =
    let size = section_bytes bytes 2 has (omega arith) in
    omega (arith, size, length-rows_in 24 note_row (bytes_of bytes 2))

pub good_external : (bytes : List ℕ) (k : ℕ) (row : NoteRow) → IsWellformed bytes → slice_get (image_in bytes).externals k ≡ Some row
    → is_good_external (image_in bytes) row ≡ true
good_external bytes k row passes at = subst (λ (o : Option NoteRow). option_map_or (is_good_external (image_in bytes)) o true ≡ true) at (passes (Index 2 k))

pub and_both : (a b : Bool) → (a && b) ≡ true → (a ≡ true) × (b ≡ true)
and_both true b e = (refl, e)
and_both false b e = let k : false ≡ true = e in cc

module _ (image : Image) (row : NoteRow) (good : is_good_external image row ≡ true) where
  some_kind : nat_le 1 row.kind ≡ true
  some_kind = (and_both (nat_le 1 row.kind) (in_pool image row.name_place row.name_length && (nat_le row.kind 3 && is_good_value image row)) good).0

  rest : (in_pool image row.name_place row.name_length && (nat_le row.kind 3 && is_good_value image row)) ≡ true
  rest = (and_both (nat_le 1 row.kind) (in_pool image row.name_place row.name_length && (nat_le row.kind 3 && is_good_value image row)) good).1

  pub name_range : in_pool image row.name_place row.name_length ≡ true
  name_range = (and_both (in_pool image row.name_place row.name_length) (nat_le row.kind 3 && is_good_value image row) rest).0

  good_value : is_good_value image row ≡ true
  good_value = (and_both (nat_le row.kind 3) (is_good_value image row) (and_both (in_pool image row.name_place row.name_length) (nat_le row.kind 3 && is_good_value image row) rest).1).1

  pub text_range : row.kind ≡ 1 → in_pool image row.value row.value_length ≡ true
  text_range e = subst (λ k. (if k == 0 then (row.value_length == 0) && (row.value == 0)
      else if k == 1 then in_pool image row.value row.value_length
      else if k == 2 then row.value_length == 0
      else (row.value_length == 0) && nat_le row.value 1) ≡ true) e good_value

test_past : (n : ℕ) → ((suc (suc (suc n)) == 1) ≡ false) × ((suc (suc (suc n)) == 2) ≡ false)
test_past n = (grind arith, grind arith)

kind_by_number : (k : ℕ) (t : List ℕ) (n : ℤ) (b : Bool) → nat_le 1 k ≡ true → IsOfKind (kind_of_note k) (if k == 1 then Text t else if k == 2 then Number n else Flag b)
kind_by_number zero t n b e = let f : false ≡ true = e in cc
kind_by_number (suc zero) t n b e = tt
kind_by_number (suc (suc zero)) t n b e = tt
kind_by_number (suc (suc (suc m))) t n b e =
    subst (λ c. IsOfKind kind.Flag (cond c (Text t) (cond (suc (suc (suc m)) == 2) (Number n) (Flag b)))) (sym (test_past m).0)
    (subst (λ c. IsOfKind kind.Flag (cond c (Number n) (Flag b))) (sym (test_past m).1) tt)

-- an image's own value has its row's kind
pub own_kind : (image : Image) (row : NoteRow) → is_good_external image row ≡ true → IsOfKind (kind_of_note row.kind) (value_of image row)
own_kind image row good = kind_by_number row.kind (pool_text image row.value row.value_length) _ (row.value == 1) (some_kind image row good)

-- a value of the same kind
pub kind_kept : (k : Kind) (v w : Value) → same_kind v w ≡ true → IsOfKind k v → IsOfKind k w
kind_kept k Undefined Undefined e h = let f : false ≡ true = e in cc
kind_kept k Undefined (Number b) e h = let f : false ≡ true = e in cc
kind_kept k Undefined (Flag b) e h = let f : false ≡ true = e in cc
kind_kept k Undefined (Text b) e h = let f : false ≡ true = e in cc
kind_kept k (Number a) Undefined e h = let f : false ≡ true = e in cc
kind_kept kind.Number (Number a) (Number b) e h = tt
kind_kept kind.Flag (Number a) (Number b) e h = absurd h
kind_kept kind.Text (Number a) (Number b) e h = absurd h
kind_kept k (Number a) (Flag b) e h = let f : false ≡ true = e in cc
kind_kept k (Number a) (Text b) e h = let f : false ≡ true = e in cc
kind_kept k (Flag a) Undefined e h = let f : false ≡ true = e in cc
kind_kept k (Flag a) (Number b) e h = let f : false ≡ true = e in cc
kind_kept kind.Number (Flag a) (Flag b) e h = absurd h
kind_kept kind.Flag (Flag a) (Flag b) e h = tt
kind_kept kind.Text (Flag a) (Flag b) e h = absurd h
kind_kept k (Flag a) (Text b) e h = let f : false ≡ true = e in cc
kind_kept k (Text a) Undefined e h = let f : false ≡ true = e in cc
kind_kept k (Text a) (Number b) e h = let f : false ≡ true = e in cc
kind_kept k (Text a) (Flag b) e h = let f : false ≡ true = e in cc
kind_kept kind.Number (Text a) (Text b) e h = absurd h
kind_kept kind.Flag (Text a) (Text b) e h = absurd h
kind_kept kind.Text (Text a) (Text b) e h = tt
