use Rattle.std.proofs.Common.{◌<◌, ◌≤◌, ℕ}
use Rattle.yr_rows.specs.Words.{times}
use Rattle.yr_cert.specs.Tries.{outputs_in}
use Rattle.yr_cert.proofs.housing.doubled.Given as goal

abbrev pub invariant-loop-split : goal.invariant-loop-split
invariant-loop-split l = (m : ℕ) → m < l.split → times m (outputs_in l.trie) ≤ 1
