use Rattle.std.proofs.Common.{◌≡◌, ◌++◌, take}
use Rattle.yr_rows.specs.Nodes.{nodes_of}
use Rattle.yr_draft.proofs.filling.add_nodes.Given as goal

abbrev pub invariant-loop-k : goal.invariant-loop-k
invariant-loop-k l = l.into.items ≡ l.initial.into.items ++ take l.k (nodes_of l.bytes)
