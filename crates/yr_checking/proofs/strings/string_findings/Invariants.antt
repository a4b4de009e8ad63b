use Rattle.std.proofs.Common.{◌≡◌, ◌-◌, ◌^◌, drop, map, min}
use Rattle.std.specs.Option.{option_map}
use Rattle.yr_name_tables.specs.Names.{first}
use Rattle.yr_conditions.specs.Fixed.{the_readers}
use Rattle.yr_rules.specs.Weight.{string_weight, total}
use Rattle.yr_syntax.specs.Declaration.{string_of}
use Rattle.yr_checks.specs.Checked.{checked_string}
use Rattle.yr_checking.specs.Findings.{finding_of}
use Rattle.yr_checks.specs.Patterns.{bad_hex, bad_regex, large_string}
use Rattle.yr_checking.proofs.strings.string_findings.Given as goal

abbrev pub invariant-loop-i : goal.invariant-loop-i
invariant-loop-i l = record {
  bad_hex : option_map finding_of l.bad_hex ≡ first (bad_hex the_readers) (map string_of (drop l.i l.strings));
  bad_regex : option_map finding_of l.bad_regex ≡ first (bad_regex the_readers) (map string_of (drop l.i l.strings));
  large : option_map finding_of l.large ≡ first (large_string the_readers) (map string_of (drop l.i l.strings));
  weight : l.weight ≡ min (total string_weight (map (checked_string the_readers l.rule) (map string_of (drop l.i l.strings)))) (2 ^ 64 - 1);
}
