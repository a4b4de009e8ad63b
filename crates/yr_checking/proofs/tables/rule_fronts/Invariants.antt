use Rattle.std.proofs.Common.{◌≡◌, ◌++◌, drop, map}
use Rattle.std.specs.List.{flat_map}
use Rattle.yr_conditions.specs.UseViews.{use_of}
use Rattle.yr_checks.specs.Checks.{wildcard}
use Rattle.yr_checking.proofs.tables.rule_fronts.Given as goal

abbrev pub invariant-loop-used : goal.invariant-loop-used
invariant-loop-used l = l.all ++ flat_map wildcard (map use_of (drop l.used-index l.uses)) ≡ flat_map wildcard (map use_of l.uses)
