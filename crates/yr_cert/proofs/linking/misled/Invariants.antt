use Rattle.std.proofs.Common.{◌≢◌, ◌<◌, ℕ}
use Rattle.yr_cert.specs.Faults.{LinksRight}
use Rattle.yr_cert.specs.Tries.{nodes_in, edges_in}
use Rattle.yr_cert.proofs.linking.misled.Given as goal

abbrev pub invariant-loop-n : goal.invariant-loop-n
invariant-loop-n l = (m : ℕ) → m ≢ 0 → m < l.n → LinksRight (nodes_in l.trie) (edges_in l.trie) m
