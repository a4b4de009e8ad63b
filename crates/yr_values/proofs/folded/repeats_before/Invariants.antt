use Rattle.std.proofs.Common.{◌≡◌, ℕ, ◌+◌, ◌<◌}
use Rattle.yr_values.specs.Folded.{folded_at}
use Rattle.yr_values.proofs.folded.repeats_before.Given as goal

abbrev pub invariant-loop-k : goal.invariant-loop-k
invariant-loop-k l = (j : ℕ) → j < l.k → folded_at l.part j ≡ folded_at l.part (j + l.period)
