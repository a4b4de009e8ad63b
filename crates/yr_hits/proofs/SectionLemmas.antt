-- Sections of a wellformed image: how many bytes and rows they have.
use Rattle.std.proofs.Common.{◌≡◌, ℕ, ◌+◌, ◌*◌, ◌<◌, ◌≤◌, List, length, drop, Some, ap, arith}
use Rattle.std.specs.Prelude.{slice_get, slice_index}
use Rattle.std.specs.Option.{option_map_or}
use Rattle.std.proofs.lemmas.List.{length-drop, length-take-le}
use Rattle.std.proofs.lemmas.Option.{slice_get_past}
use Rattle.yr_rows.specs.Moves.{move_row, IsWellformedProgram}
use Rattle.yr_rows.proofs.RowLemmas.{length-rows_in}
use Rattle.yr_image.specs.declared.rows.ProgramRow.{ProgramRow}
use Rattle.yr_image.specs.declared.fault.ImageFault.TheVariants.{ProgramBad}
use Rattle.yr_image.specs.Image.{Image}
use Rattle.yr_image.specs.Reading.{image_in, program_row, string_row}
use Rattle.yr_image.specs.Sections.{HasSections, widths, version_in, rows_of, size_of, place_of, bytes_of}
use Rattle.yr_machine.specs.Wellformed.{IsWellformed}
use Rattle.yr_machine.specs.Budget.{moves_count}
use Rattle.yr_machine.proofs.CallerLemmas.{has_sections}

-- a section has all the bytes of its rows
pub section_bytes : (bytes : List ℕ) (k : ℕ) → HasSections bytes → k < 14 → length (bytes_of bytes k) ≡ rows_of bytes k * slice_index (widths (version_in bytes)) k
section_bytes bytes k has inside =
    let fits = (has.sections k inside).inside in
    let left = length-drop (place_of bytes k) bytes in
    length-take-le (size_of bytes k) (drop (place_of bytes k) bytes) (omega (arith, fits, left))

pub program_rows : (bytes : List ℕ) → HasSections bytes → length (image_in bytes).programs ≡ rows_of bytes 6
program_rows bytes has =
    let size = section_bytes bytes 6 has (omega arith) in
    omega (arith, size, length-rows_in 8 program_row (bytes_of bytes 6))

-- a program that is not there has no moves
pub no_moves : (image : Image) (k : ℕ) → length image.programs ≤ k → moves_count image k ≡ 0
no_moves image k past = ap (λ found. option_map_or (λ (row : ProgramRow). row.moves) found 0) (slice_get_past image.programs k past)

pub moves_at : (image : Image) (k : ℕ) (row : ProgramRow) → slice_get image.programs k ≡ Some row → moves_count image k ≡ row.moves
moves_at image k row at = ap (λ found. option_map_or (λ (r : ProgramRow). r.moves) found 0) at

-- the program is a range of the moves, and its moves are wellformed
pub wellformed_program : (bytes : List ℕ) (k : ℕ) (row : ProgramRow) → IsWellformed bytes → slice_get (image_in bytes).programs k ≡ Some row
    → IsWellformedProgram row.first_move row.moves (image_in bytes).moves (image_in bytes).sets
wellformed_program bytes k row wellformed at = ((wellformed (ProgramBad k)).program row at).wellformed

pub program_in_bytes : (bytes : List ℕ) (k : ℕ) (row : ProgramRow) → IsWellformed bytes → slice_get (image_in bytes).programs k ≡ Some row
    → 16 * row.first_move + 16 * row.moves ≤ length (bytes_of bytes 7)
program_in_bytes bytes k row wellformed at =
    let inside = (wellformed_program bytes k row wellformed at).0 in
    let size = section_bytes bytes 7 (has_sections bytes wellformed) (omega arith) in
    omega (arith, inside, size, length-rows_in 16 move_row (bytes_of bytes 7))

pub string_rows : (bytes : List ℕ) → HasSections bytes → length (image_in bytes).strings ≡ rows_of bytes 3
string_rows bytes has =
    let size = section_bytes bytes 3 has (omega arith) in
    omega (arith, size, length-rows_in 16 string_row (bytes_of bytes 3))
