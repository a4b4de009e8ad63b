use Rattle.std.proofs.Common.{◌≡◌, drop, map}
use Rattle.std.specs.List.{list_any}
use Rattle.yr_conditions.specs.UseViews.{use_of}
use Rattle.yr_checks.specs.Checks.{is_long}
use Rattle.yr_checking.proofs.used.some_long.Given as goal

abbrev pub invariant-loop-used : goal.invariant-loop-used
invariant-loop-used l = list_any is_long (map use_of l.uses) ≡ list_any is_long (map use_of (drop l.used-index l.uses))
