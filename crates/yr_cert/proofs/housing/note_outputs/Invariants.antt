use Rattle.std.proofs.Common.{◌≤◌}
use Rattle.yr_cert.specs.Tries.{AreHomes}
use Rattle.yr_cert.proofs.housing.note_outputs.Given as goal

abbrev pub invariant-loop-k : goal.invariant-loop-k
invariant-loop-k l = record {
  low : l.first ≤ l.k;
  high : l.k ≤ l.k-end;
  are : AreHomes l.trie l.k l.homes.items;
}
