use Rattle.std.proofs.Common.{ℕ, ◌<◌, get_or, length}
use Rattle.yr_rows.specs.Moves.{IsWellformedMove, moves_in, sets_in}
use Rattle.yr_rows.specs.declared.moves.MoveRow.{MoveRow}
use Rattle.yr_rows.proofs.wellformed.are_wellformed_moves.Given as goal

abbrev pub invariant-loop-m : goal.invariant-loop-m
invariant-loop-m l =
    (k : ℕ) (d : MoveRow) → k < l.m → IsWellformedMove (length (moves_in l.moves)) (length (sets_in l.sets)) (get_or (moves_in l.moves) k d)
