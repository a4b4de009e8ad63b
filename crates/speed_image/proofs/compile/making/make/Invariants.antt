use Rattle.std.proofs.Common.{map}
use Rattle.yr_rules.specs.Rules.{rule_of, string_of}
use Rattle.speed_image.specs.Made.{AreMade}
use Rattle.speed_image.proofs.compile.making.make.Given as goal

abbrev pub invariant-loop-k : goal.invariant-loop-k
invariant-loop-k l = AreMade (map rule_of l.rules.items) (map string_of l.strings.items)
