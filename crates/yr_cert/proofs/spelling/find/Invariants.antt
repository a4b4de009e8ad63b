use Rattle.std.proofs.Common.{◌≡◌, ◌<◌, ◌≤◌, length, drop}
use Rattle.yr_rows.specs.Words.{path}
use Rattle.yr_automaton.specs.Atoms.{word}
use Rattle.yr_cert.specs.Tries.{nodes_in, edge_in}
use Rattle.yr_cert.proofs.spelling.find.Given as goal

abbrev pub invariant-loop-at : goal.invariant-loop-at
invariant-loop-at l = record {
  within : l.at ≤ l.atom.len;
  inside : l.node < length (nodes_in l.trie);
  same : path (edge_in l.trie) 0 (drop l.from (word l.atom)) ≡ path (edge_in l.trie) l.node (drop l.at (word l.atom));
}
