use Rattle.std.proofs.Common.{◌≡◌, drop, map}
use Rattle.yr_name_tables.specs.Names.{first}
use Rattle.yr_conditions.specs.UseViews.{use_of}
use Rattle.yr_checks.specs.Checks.{unknown_string}
use Rattle.yr_checking.proofs.used.first_unknown_token.Given as goal

abbrev pub invariant-loop-used : goal.invariant-loop-used
invariant-loop-used l = first (unknown_string l.strings.names.now) (map use_of l.uses) ≡ first (unknown_string l.strings.names.now) (map use_of (drop l.used-index l.uses))
