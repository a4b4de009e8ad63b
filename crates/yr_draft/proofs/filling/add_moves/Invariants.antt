use Rattle.std.proofs.Common.{◌≡◌, ◌++◌, take}
use Rattle.yr_rows.specs.Moves.{moves_in}
use Rattle.yr_draft.specs.Growing.{moves_behind}
use Rattle.yr_draft.proofs.filling.add_moves.Given as goal

abbrev pub invariant-loop-m : goal.invariant-loop-m
invariant-loop-m l = l.into.items ≡ l.initial.into.items ++ take l.m (moves_behind l.sets (moves_in l.moves))
