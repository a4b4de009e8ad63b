use Rattle.std.proofs.Common.{◌≡◌, ◌++◌, take}
use Rattle.yr_rows.specs.Nodes.{outputs_of}
use Rattle.yr_draft.proofs.filling.add_outputs.Given as goal

abbrev pub invariant-loop-k : goal.invariant-loop-k
invariant-loop-k l = l.into.items ≡ l.initial.into.items ++ take l.k (outputs_of l.bytes)
