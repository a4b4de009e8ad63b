-- The program that rows are.
use Rattle.std.specs.Prelude.{ℕ, List}
use Rattle.yr_rows.specs.Moves.{moves_in, sets_in, AreWellformedMoves}
use Rattle.yr_rows.specs.declared.moves.MoveRow.{MoveRow}
use Rattle.yr_moves.specs.declared.rows.ProgramRows.{ProgramRows}

-- the rows of its moves
abbrev pub moves_of : ProgramRows → List MoveRow
moves_of rows = moves_in rows.moves.now

-- its sets
abbrev pub sets_of : ProgramRows → List (List ℕ)
sets_of rows = sets_in rows.sets.now

-- the rows are wellformed as the only program
abbrev pub IsWellformed : ProgramRows → Type 0
IsWellformed rows = AreWellformedMoves (moves_of rows) (sets_of rows)
