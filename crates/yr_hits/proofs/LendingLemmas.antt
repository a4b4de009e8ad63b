-- A range of the moves' bytes is a program.
use Rattle.std.proofs.Common.{◌≡◌, ℕ, ◌*◌, ◌<◌, ◌≤◌, ◌⊎◌, inl, inr, List, length, take, drop, Some, sym, ap, ◌∙◌, subst, arith}
use Rattle.std.specs.Prelude.{slice_get}
use Rattle.std.proofs.lemmas.List.{length-drop, length-take-le}
use Rattle.std.specs.Ordering.{ord_max, nat_cmp}
use Rattle.std.proofs.lemmas.Bool.{cases_lt}
use Rattle.std.proofs.lemmas.Bool.Decides.{nat_tests}
use Rattle.yr_rows.specs.Moves.{moves_in, AreWellformedMoves}
use Rattle.yr_rows.proofs.RowLemmas.{moves_in-range}
use Rattle.yr_moves.specs.declared.rows.ProgramRows.{ProgramRows}
use Rattle.yr_moves.specs.Programs.{moves_of, sets_of}
use Rattle.yr_image.specs.declared.rows.ProgramRow.{ProgramRow}
use Rattle.yr_image.specs.Image.{Image}
use Rattle.yr_image.specs.Image as image_parts
use Rattle.yr_image.specs.Reading.{image_in}
use Rattle.yr_image.specs.Sections.{bytes_of}
use Rattle.yr_machine.specs.Wellformed.{IsWellformed}
use Rattle.yr_hits.specs.Programs.{IsProgramOf}
use Rattle.yr_hits.proofs.SectionLemmas.{wellformed_program, moves_at}

same_row : (image : Image) (k : ℕ) (row other : ProgramRow) → slice_get image.programs k ≡ Some row → slice_get image.programs k ≡ Some other → row ≡ other
same_row image k row other a b = cc

pub program_of : (bytes : List ℕ) (k : ℕ) (row : ProgramRow) (rows : ProgramRows) → IsWellformed bytes → slice_get (image_in bytes).programs k ≡ Some row
    → moves_of rows ≡ moves_in (take (16 * row.moves) (drop (16 * row.first_move) (bytes_of bytes 7)))
    → sets_of rows ≡ (image_in bytes).sets
    → IsProgramOf (image_in bytes) k rows
program_of bytes k row rows wellformed at moves sets =
    let image = image_in bytes in
    let good = wellformed_program bytes k row wellformed at in
    let range : moves_of rows ≡ image_parts.moves_of image row = moves ∙ moves_in-range (bytes_of bytes 7) row.first_move row.moves good.0 in
    let long = length-drop row.first_move image.moves in
    let size = length-take-le row.moves (drop row.first_move image.moves) (omega (arith, good.0, long)) in
    record {
      moves = λ other is. range ∙ ap (image_parts.moves_of image) (same_row image k row other at is);
      sets = sets;
      size = ap length range ∙ size ∙ sym (moves_at image k row at);
      wellformed = subst (λ ms. AreWellformedMoves ms (sets_of rows)) (sym range) (subst (λ ss. AreWellformedMoves (image_parts.moves_of image row) ss) (sym sets) good.1);
    }

pub below_or_at : (k n : ℕ) → (k < n) ⊎ (n ≤ k)
below_or_at k n = elim (cases_lt k n) [ inl h ↦ inl h | inr h ↦ inr h ]

pub above_max : (a b : ℕ) → (a ≤ ord_max nat_cmp a b) × (b ≤ ord_max nat_cmp a b)
above_max a b = (grind (arith, nat_tests), grind (arith, nat_tests))
