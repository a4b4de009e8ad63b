use Rattle.std.proofs.Common.{◌≡◌, ◌<◌, ◌≤◌, length, take, drop, Some}
use Rattle.std.specs.Prelude.{slice_get}
use Rattle.yr_rows.specs.declared.nodes.NodeRow.{NodeRow}
use Rattle.yr_rows.specs.Words.{path}
use Rattle.yr_cert.specs.Tries.{nodes_in, edge_in}
use Rattle.yr_cert.proofs.spelling.word_at.Given as goal

abbrev pub invariant-loop-left : goal.invariant-loop-left
invariant-loop-left l = record {
  within : l.left ≤ l.depth;
  low : l.depth ≤ 4;
  wide : length l.bytes ≡ 4;
  inside : l.at < length (nodes_in l.trie);
  deep : (row : NodeRow) → slice_get (nodes_in l.trie) l.at ≡ Some row → row.depth ≡ l.left;
  leads : path (edge_in l.trie) l.at (drop l.left (take l.depth l.bytes)) ≡ Some l.n;
}

abbrev pub decreases-loop-left : goal.decreases-loop-left
decreases-loop-left l = l.left
