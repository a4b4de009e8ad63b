use Rattle.std.proofs.Common.{◌≡◌, map, drop}
use Rattle.yr_syntax.specs.Condition.{step_of, steps_of}
use Rattle.yr_conditions.specs.Meanings.{steps_meaning}
use Rattle.yr_conditions.specs.UseViews.{shown}
use Rattle.yr_conditions.proofs.path.steps_meaning.Given as goal

abbrev pub invariant-loop-step : goal.invariant-loop-step
invariant-loop-step l =
    steps_meaning (steps_of (map step_of (drop l.step-index l.steps))) (shown l.meaning)
    ≡ steps_meaning (steps_of (map step_of l.steps)) (shown l.fn.start)
