use Rattle.std.proofs.Common.{◌≡◌, ◌≤◌, length, take, map}
use Rattle.yr_conditions.specs.Meanings.{current_of}
use Rattle.yr_conditions.specs.UseViews.{innermost_first, scope_of}
use Rattle.yr_conditions.proofs.scopes.current_in.Given as goal

abbrev pub invariant-loop-left : goal.invariant-loop-left
invariant-loop-left l = record {
  within : l.left ≤ length l.loops;
  rest : current_of (innermost_first (map scope_of l.loops)) ≡ current_of (innermost_first (map scope_of (take l.left l.loops)));
}

abbrev pub decreases-loop-left : goal.decreases-loop-left
decreases-loop-left l = l.left
