use Rattle.std.proofs.Common.{◌≡◌, ◌≤◌, ◌<◌, ◌+◌, ◌-◌, ℕ}
use Rattle.yr_values.specs.Folded.{folded_at}
use Rattle.yr_values.proofs.folded.matches_between.Given as goal

abbrev pub invariant-loop-j : goal.invariant-loop-j
invariant-loop-j l = (l.j ≤ l.high) × ((k : ℕ) → l.j ≤ k → k < l.high → folded_at l.part k ≡ folded_at l.text (l.at + k))

abbrev pub decreases-loop-j : goal.decreases-loop-j
decreases-loop-j l = l.j - l.low
