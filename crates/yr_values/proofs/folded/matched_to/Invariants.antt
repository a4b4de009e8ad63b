use Rattle.std.proofs.Common.{◌≡◌, ◌≤◌, ◌<◌, ◌+◌, ◌-◌, ℕ}
use Rattle.yr_values.specs.Folded.{folded_at}
use Rattle.yr_values.proofs.folded.matched_to.Given as goal

abbrev pub invariant-loop-i : goal.invariant-loop-i
invariant-loop-i l = (l.start ≤ l.i) × (l.i ≤ l.m) × ((k : ℕ) → l.start ≤ k → k < l.i → folded_at l.part k ≡ folded_at l.text (l.at + k))

abbrev pub decreases-loop-i : goal.decreases-loop-i
decreases-loop-i l = l.m - l.i
