use Rattle.std.proofs.Common.{◌≡◌}
use Rattle.yr_workload.specs.Workload.{after_draws}
use Rattle.yr_workload.proofs.draw.skip.Given as goal

abbrev pub invariant-loop-draw : goal.invariant-loop-draw
invariant-loop-draw l = l.after ≡ after_draws l.number l._draw
