use Rattle.std.proofs.Common.{◌≡◌, ◌-◌, ◌^◌, map, min, drop}
use Rattle.yr_rules.specs.Weight as spec
use Rattle.yr_rules.specs.Rules.{string_of}
use Rattle.yr_typing.proofs.rule_weight.strings_weight.Given as goal

abbrev pub invariant-loop-i : goal.invariant-loop-i
invariant-loop-i l = l.total ≡ min (spec.total spec.string_weight (map string_of (drop l.i l.strings))) (2 ^ 64 - 1)
