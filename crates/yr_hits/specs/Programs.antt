-- The programs of an image, read in place.
use Rattle.std.specs.Prelude.{◌≡◌, ℕ, ◌≤◌, length, Some, slice_get}
use Rattle.yr_moves.specs.declared.rows.ProgramRows.{ProgramRows}
use Rattle.yr_moves.specs.Programs.{moves_of, sets_of, IsWellformed}
use Rattle.yr_image.specs.declared.rows.ProgramRow.{ProgramRow}
use Rattle.yr_image.specs.Image.{Image}
use Rattle.yr_image.specs.Image as image_parts
use Rattle.yr_machine.specs.Budget.{moves_count}

-- these rows are the program of this number
pub record IsProgramOf (image : Image) (k : ℕ) (rows : ProgramRows) : Type 0 where
  pub moves : (row : ProgramRow) → slice_get image.programs k ≡ Some row → moves_of rows ≡ image_parts.moves_of image row
  pub sets : sets_of rows ≡ image.sets
  pub size : length (moves_of rows) ≡ moves_count image k
  pub wellformed : IsWellformed rows

-- there is room for the moves of each program
abbrev pub HasRoom : Image → ℕ → Type 0
HasRoom image room = (k : ℕ) → moves_count image k ≤ room
