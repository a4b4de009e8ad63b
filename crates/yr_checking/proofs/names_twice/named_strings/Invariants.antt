use Rattle.std.proofs.Common.{◌≡◌, ◌++◌, drop, map, filter}
use Rattle.yr_syntax.specs.Declaration.{string_of}
use Rattle.yr_checks.specs.Checks.{is_named}
use Rattle.yr_checking.proofs.names_twice.named_strings.Given as goal

abbrev pub invariant-loop-string : goal.invariant-loop-string
invariant-loop-string l =
    l.all.items ++ filter is_named (map (λ s. s.name) (map string_of (drop l.string-index l.strings))) ≡ filter is_named (map (λ s. s.name) (map string_of l.strings))
