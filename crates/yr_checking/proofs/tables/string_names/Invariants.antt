use Rattle.std.proofs.Common.{◌≡◌, take, map}
use Rattle.yr_syntax.specs.Declaration.{string_of}
use Rattle.yr_checking.proofs.tables.string_names.Given as goal

abbrev pub invariant-loop-string : goal.invariant-loop-string
invariant-loop-string l = l.all ≡ map (λ s. s.name) (map string_of (take l.string-index l.strings))
