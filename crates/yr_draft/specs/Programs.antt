-- A program of an image that accepts exactly the spans of a pattern.
use Rattle.std.specs.Prelude.{◌≡◌, ℕ, ◌↔◌, Bool, true, false, List, Some, slice_get}
use Rattle.yr_pattern.specs.Tree.{Tree}
use Rattle.yr_pattern.specs.Spans.{Spans}
use Rattle.yr_rows.specs.Moves.{IsWellformedProgram}
use Rattle.yr_rows.specs.Accepts.{Accepts, AcceptsBackwards}
use Rattle.yr_rows.specs.declared.moves.MoveRow.{MoveRow}
use Rattle.yr_image.specs.declared.rows.ProgramRow.{ProgramRow}
use Rattle.yr_image.specs.Image.{Image, moves_of}

-- the moves, read backwards or forwards, accept what stands from place i to place j
abbrev pub AcceptsIn : (backwards : Bool) → List MoveRow → List (List ℕ) → List ℕ → ℕ → ℕ → Type 0
AcceptsIn true moves sets file i j = AcceptsBackwards moves sets file i j
AcceptsIn false moves sets file i j = Accepts moves sets file i j

-- the moves accept exactly the spans of the pattern
abbrev pub AcceptSpans : (backwards : Bool) → List MoveRow → List (List ℕ) → Tree → Type 0
AcceptSpans backwards moves sets tree = (file : List ℕ) (i j : ℕ) → AcceptsIn backwards moves sets file i j ↔ Spans tree file i j

-- the program of this number is wellformed, and accepts exactly the spans of the pattern
pub record IsProgramOf (image : Image) (backwards : Bool) (tree : Tree) (number : ℕ) : Type 0 where
  pub row : ProgramRow
  pub is_row : slice_get image.programs number ≡ Some row
  pub wellformed : IsWellformedProgram row.first_move row.moves image.moves image.sets
  pub accepts : AcceptSpans backwards (moves_of image row) image.sets tree
