-- Tables of an image that grow at their ends.
use Rattle.std.specs.Prelude.{◌≡◌, ℕ, ◌+◌, ◌==◌, if◌then◌else◌, List, ◌++◌, map}
use Rattle.yr_rows.specs.declared.moves.MoveRow.{MoveRow}
use Rattle.yr_image.specs.Image.{Image}

-- the list is the other one with more after it
abbrev pub BeginsAs : {X : Type 0} → List X → List X → Type 0
BeginsAs {X} old new = (more : List X) × (new ≡ old ++ more)

-- texts and programs of an image, which the rows of others name, have only grown
pub record Grows (old new : Image) : Type 0 where
  pub sets : BeginsAs old.sets new.sets
  pub programs : BeginsAs old.programs new.programs
  pub moves : BeginsAs old.moves new.moves
  pub pool : BeginsAs old.pool new.pool

-- the row of a move whose program's sets stand behind so many others
abbrev pub move_behind : ℕ → MoveRow → MoveRow
move_behind sets row = record {
  kind = row.kind;
  next = row.next;
  other = row.other;
  set = if row.kind == 1 then row.set + sets else row.set;
}

abbrev pub moves_behind : ℕ → List MoveRow → List MoveRow
moves_behind sets moves = map (move_behind sets) moves
