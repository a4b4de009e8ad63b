use Rattle.std.proofs.Common.{◌≡◌, take, map}
use Rattle.yr_conditions.specs.Fixed.{the_readers}
use Rattle.yr_rules.specs.Rules.{string_of as checked_of}
use Rattle.yr_syntax.specs.Declaration.{string_of}
use Rattle.yr_checks.specs.Checked.{checked_string}
use Rattle.yr_checking.proofs.strings.checked_strings.Given as goal

abbrev pub invariant-loop-string : goal.invariant-loop-string
invariant-loop-string l = map checked_of l.all.items ≡ map (checked_string the_readers l.rule) (map string_of (take l.string-index l.strings))
