use Rattle.std.proofs.Common.{◌≡◌, ◌++◌, drop, map}
use Rattle.std.specs.List.{flat_map}
use Rattle.yr_conditions.specs.UseViews.{use_of}
use Rattle.yr_checking.specs.Unused.{whole_name}
use Rattle.yr_checking.proofs.unused.used_names.Given as goal

abbrev pub invariant-loop-used : goal.invariant-loop-used
invariant-loop-used l = l.wholes ++ flat_map whole_name (map use_of (drop l.used-index l.uses)) ≡ flat_map whole_name (map use_of l.uses)
