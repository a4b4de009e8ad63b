use Rattle.std.proofs.Common.{◌≡◌, ◌-◌, ◌^◌, map, min, drop}
use Rattle.yr_rules.specs.Weight as spec
use Rattle.yr_syntax.specs.Declaration.{meta_of}
use Rattle.yr_typing.proofs.rule_weight.meta_weight.Given as goal

abbrev pub invariant-loop-i : goal.invariant-loop-i
invariant-loop-i l = l.total ≡ min (spec.total spec.meta_weight (map meta_of (drop l.i l.meta))) (2 ^ 64 - 1)
