use Rattle.std.proofs.Common.{◌≡◌, drop, map}
use Rattle.std.specs.Option.{option_map}
use Rattle.yr_name_tables.specs.Names.{first}
use Rattle.yr_conditions.specs.Fixed.{the_readers}
use Rattle.yr_conditions.specs.UseViews.{use_of}
use Rattle.yr_checking.specs.Findings.{finding_of}
use Rattle.yr_checks.specs.Patterns.{bad_use, large_use}
use Rattle.yr_checking.proofs.expressions.first_expression_findings.Given as goal

abbrev pub invariant-loop-i : goal.invariant-loop-i
invariant-loop-i l = record {
  bad : option_map finding_of l.bad ≡ first (bad_use the_readers) (map use_of (drop l.i l.uses));
  large : option_map finding_of l.large ≡ first (large_use the_readers) (map use_of (drop l.i l.uses));
}
