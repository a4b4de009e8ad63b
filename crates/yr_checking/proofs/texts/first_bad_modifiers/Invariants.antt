use Rattle.std.proofs.Common.{◌≡◌, drop, map}
use Rattle.yr_name_tables.specs.Names.{first}
use Rattle.yr_syntax.specs.Declaration.{string_of}
use Rattle.yr_checks.specs.Patterns.{bad_modifiers}
use Rattle.yr_checking.proofs.texts.first_bad_modifiers.Given as goal

abbrev pub invariant-loop-string : goal.invariant-loop-string
invariant-loop-string l = first bad_modifiers (map string_of l.strings) ≡ first bad_modifiers (map string_of (drop l.string-index l.strings))
