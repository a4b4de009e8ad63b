use Rattle.std.proofs.Common.{◌≤◌}
use Rattle.yr_cert.specs.Tries.{AreParents}
use Rattle.yr_cert.proofs.reaching.note_edges.Given as goal

abbrev pub invariant-loop-k : goal.invariant-loop-k
invariant-loop-k l = record {
  low : l.first ≤ l.k;
  high : l.k ≤ l.k-end;
  are : AreParents l.trie l.k l.parents.items;
}
