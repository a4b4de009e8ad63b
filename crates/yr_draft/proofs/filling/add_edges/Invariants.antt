use Rattle.std.proofs.Common.{◌≡◌, ◌++◌, take}
use Rattle.yr_rows.specs.Nodes.{edges_of}
use Rattle.yr_draft.proofs.filling.add_edges.Given as goal

abbrev pub invariant-loop-k : goal.invariant-loop-k
invariant-loop-k l = l.into.items ≡ l.initial.into.items ++ take l.k (edges_of l.bytes)
