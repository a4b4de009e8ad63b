use Rattle.std.proofs.Common.{◌≡◌, ◌-◌, ◌^◌, map, min, drop}
use Rattle.yr_rules.specs.Weight as spec
use Rattle.yr_pattern.specs.Variants.{variant_of}
use Rattle.yr_typing.proofs.rule_weight.variants_weight.Given as goal

abbrev pub invariant-loop-i : goal.invariant-loop-i
invariant-loop-i l = l.total ≡ min (spec.total spec.variant_weight (map variant_of (drop l.i l.variants))) (2 ^ 64 - 1)
