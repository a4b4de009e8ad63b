-- How many rules and external variables an image has.
use Rattle.std.proofs.Common.{◌≡◌, ℕ, ◌*◌, ◌/◌, ◌==◌, Bool, true, false, if◌then◌else◌, List, [], length, arith}
use Rattle.std.specs.Prelude.{nat_eq}
use Rattle.std.proofs.lemmas.Bool.Decides.{nat_tests}
use Rattle.std.proofs.lemmas.Option.{none-some}
use Rattle.yr_rows.proofs.RowLemmas.{length-rows_in}
use Rattle.yr_image.specs.Reading.{image_in, rule_row, note_row}
use Rattle.yr_image.specs.Sections.{HasSections, version_in, rule_width, rows_of, bytes_of}
use Rattle.yr_machine.specs.ImageRun.{FitExternals}
use Rattle.yr_hits.proofs.SectionLemmas.{section_bytes}

-- rows of either width
by_width : (b : Bool) (rows count size : ℕ) → size ≡ rows * (if b then 32 else 40) → count ≡ size / (if b then 32 else 40) → count ≡ rows
by_width true rows count size bytes divided = omega (arith, bytes, divided)
by_width false rows count size bytes divided = omega (arith, bytes, divided)

pub rule_rows : (bytes : List ℕ) → HasSections bytes → length (image_in bytes).rules ≡ rows_of bytes 0
rule_rows bytes has =
    by_width (version_in bytes == 1) (rows_of bytes 0) (length (image_in bytes).rules) (length (bytes_of bytes 0))
    (section_bytes bytes 0 has (omega arith))
    (length-rows_in (rule_width (version_in bytes)) (rule_row (version_in bytes)) (bytes_of bytes 0))

-- an image without external variables wants no values
pub no_externals : (bytes : List ℕ) → HasSections bytes → rows_of bytes 2 ≡ 0 → FitExternals (image_in bytes) []
no_externals bytes has none = record {
  count =
      let size = section_bytes bytes 2 has (omega arith) in
      let rows = length-rows_in 24 note_row (bytes_of bytes 2) in
      omega (arith, size, rows, none);
  each = λ k row value at is. absurd (none-some value is);
}

pub zero_from : (n : ℕ) → nat_eq n 0 ≡ true → n ≡ 0
zero_from n e = grind (arith, nat_tests)
