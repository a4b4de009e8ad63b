-- What is added to an image that is being made.
use Rattle.std.specs.Prelude.{◌≡◌, ℕ, ◌+◌, ◌≤◌, List, [], ◌∷◌, ◌++◌, length}
use Rattle.yr_rows.specs.declared.moves.MoveRow.{MoveRow}
use Rattle.yr_image.specs.declared.rows.ProgramRow.{ProgramRow}
use Rattle.yr_image.specs.Image.{Image, pool_text}
use Rattle.yr_draft.specs.Growing.{BeginsAs, moves_behind}

-- an image without a row
abbrev pub empty_image : Image
empty_image = record {
  version = 2;
  rules = [];
  notes = [];
  externals = [];
  strings = [];
  splits = [];
  sets = [];
  programs = [];
  moves = [];
  nodes = [];
  edges = [];
  outputs = [];
  lists = [];
  code = [];
  pool = [];
}

-- the text is the range of the pool from this place on; the pool has grown by no more than the text, and nothing else has changed
pub record HasText (old new : Image) (text : List ℕ) (place : ℕ) : Type 0 where
  pub others : new ≡ record old { pool = new.pool }
  pub begins : BeginsAs old.pool new.pool
  pub few : length new.pool ≤ length old.pool + length text
  pub inside : place + length text ≤ length new.pool
  pub reads : pool_text new place (length text) ≡ text

-- the row of a program of these moves behind others
abbrev pub row_behind : List MoveRow → List MoveRow → ProgramRow
row_behind before moves = record { first_move = length before; moves = length moves }

-- the image with one more program, whose moves name these sets
abbrev pub with_program : Image → List MoveRow → List (List ℕ) → Image
with_program image moves sets = record image {
  sets = image.sets ++ sets;
  moves = image.moves ++ moves_behind (length image.sets) moves;
  programs = image.programs ++ row_behind image.moves moves ∷ [];
}
