-- How many rows the sections of an image have: as many as its header says.
use Rattle.std.proofs.Common.{◌≡◌, ℕ, ◌*◌, ◌/◌, ◌<◌, List, length, drop, refl, ap, ◌∙◌, arith, Bool, true, false, cond, lit<}
use Rattle.std.specs.Prelude.{◌==◌}
use Rattle.std.proofs.lemmas.List.{length-drop, length-take-le}
use Rattle.std.proofs.lemmas.List.FromFn.{length-map-range_with_len}
use Rattle.std.proofs.Math.Nat.{mul-div_cancel}
use Rattle.yr_rows.specs.Moves.{move_row}
use Rattle.yr_rows.specs.Nodes.{node_in, edge_in, number_in}
use Rattle.yr_rows.proofs.RowLemmas.{length-rows_in}
use Rattle.yr_image.specs.Sections.{HasSections, rows_of, size_of, place_of, bytes_of, rule_width, version_in}
use Rattle.yr_image.specs.Reading.{image_in, rule_row, note_row, string_row, split_row, split_zeros, program_row, code_row, zeros_in}

rule_width_positive : (b : Bool) → 0 < cond b 32 40
rule_width_positive true = lit< tt
rule_width_positive false = lit< tt

module _ (bytes : List ℕ) (fits : HasSections bytes) where
  -- a section has all its bytes
  pub section_size : (k : ℕ) → k < 14 → length (bytes_of bytes k) ≡ size_of bytes k
  section_size k lt =
      length-take-le (size_of bytes k) (drop (place_of bytes k) bytes)
      (omega (arith, (fits.sections k lt).inside, length-drop (place_of bytes k) bytes))

  -- so many rows of a width
  counted : (k width : ℕ) → k < 14 → 0 < width → size_of bytes k ≡ rows_of bytes k * width → length (bytes_of bytes k) / width ≡ rows_of bytes k
  counted k width lt some size = ap (λ n. n / width) (section_size k lt ∙ size) ∙ mul-div_cancel (rows_of bytes k) some

  pub rules_counted : length (image_in bytes).rules ≡ rows_of bytes 0
  rules_counted =
      let width = rule_width (version_in bytes) in
      length-rows_in width (rule_row (version_in bytes)) (bytes_of bytes 0) ∙ counted 0 width (lit< tt) (rule_width_positive (version_in bytes == 1)) refl

  pub notes_counted : length (image_in bytes).notes ≡ rows_of bytes 1
  notes_counted = length-rows_in 24 note_row (bytes_of bytes 1) ∙ counted 1 24 (lit< tt) (lit< tt) refl

  pub externals_counted : length (image_in bytes).externals ≡ rows_of bytes 2
  externals_counted = length-rows_in 24 note_row (bytes_of bytes 2) ∙ counted 2 24 (lit< tt) (lit< tt) refl

  pub strings_counted : length (image_in bytes).strings ≡ rows_of bytes 3
  strings_counted = length-rows_in 16 string_row (bytes_of bytes 3) ∙ counted 3 16 (lit< tt) (lit< tt) refl

  pub splits_counted : length (image_in bytes).splits ≡ rows_of bytes 4
  splits_counted = length-rows_in 32 split_row (bytes_of bytes 4) ∙ counted 4 32 (lit< tt) (lit< tt) refl

  pub zeros_counted : length (zeros_in bytes) ≡ rows_of bytes 4
  zeros_counted = length-rows_in 32 split_zeros (bytes_of bytes 4) ∙ counted 4 32 (lit< tt) (lit< tt) refl

  pub programs_counted : length (image_in bytes).programs ≡ rows_of bytes 6
  programs_counted = length-rows_in 8 program_row (bytes_of bytes 6) ∙ counted 6 8 (lit< tt) (lit< tt) refl

  pub moves_counted : length (image_in bytes).moves ≡ rows_of bytes 7
  moves_counted = length-rows_in 16 move_row (bytes_of bytes 7) ∙ counted 7 16 (lit< tt) (lit< tt) refl

  pub nodes_counted : length (image_in bytes).nodes ≡ rows_of bytes 8
  nodes_counted = length-map-range_with_len (node_in (bytes_of bytes 8)) 0 (length (bytes_of bytes 8) / 24) ∙ counted 8 24 (lit< tt) (lit< tt) refl

  pub edges_counted : length (image_in bytes).edges ≡ rows_of bytes 9
  edges_counted = length-map-range_with_len (edge_in (bytes_of bytes 9)) 0 (length (bytes_of bytes 9) / 8) ∙ counted 9 8 (lit< tt) (lit< tt) refl

  pub outputs_counted : length (image_in bytes).outputs ≡ rows_of bytes 10
  outputs_counted = length-map-range_with_len (number_in (bytes_of bytes 10)) 0 (length (bytes_of bytes 10) / 4) ∙ counted 10 4 (lit< tt) (lit< tt) refl

  pub lists_counted : length (image_in bytes).lists ≡ rows_of bytes 11
  lists_counted = length-map-range_with_len (number_in (bytes_of bytes 11)) 0 (length (bytes_of bytes 11) / 4) ∙ counted 11 4 (lit< tt) (lit< tt) refl

  pub code_counted : length (image_in bytes).code ≡ rows_of bytes 12
  code_counted = length-rows_in 16 code_row (bytes_of bytes 12) ∙ counted 12 16 (lit< tt) (lit< tt) refl

  pub pool_counted : length (image_in bytes).pool ≡ rows_of bytes 13
  pool_counted = section_size 13 (lit< tt) ∙ omega arith
