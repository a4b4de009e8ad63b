use Rattle.std.proofs.Common.{◌≡◌, ◌≢◌, ◌<◌, ℕ}
use Rattle.yr_rows.specs.Words.{times}
use Rattle.yr_cert.specs.Tries.{targets_of, edges_in}
use Rattle.yr_cert.proofs.reaching.orphan.Given as goal

abbrev pub invariant-loop-n : goal.invariant-loop-n
invariant-loop-n l = (m : ℕ) → m ≢ 0 → m < l.n → times m (targets_of (edges_in l.trie)) ≡ 1
