use Rattle.std.proofs.Common.{◌≡◌, ◌++◌, take}
use Rattle.yr_rows.specs.Moves.{sets_in}
use Rattle.yr_draft.proofs.filling.add_sets.Given as goal

abbrev pub invariant-loop-k : goal.invariant-loop-k
invariant-loop-k l = l.into.items ≡ l.initial.into.items ++ take l.k (sets_in l.sets)
