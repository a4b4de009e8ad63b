use Rattle.std.proofs.Common.{◌≡◌, ◌-◌, ◌^◌, map, min, drop}
use Rattle.yr_rules.specs.Weight as spec
use Rattle.yr_rules.specs.Rules.{external_of}
use Rattle.yr_typing.proofs.rule_weight.externals_weight.Given as goal

abbrev pub invariant-loop-i : goal.invariant-loop-i
invariant-loop-i l = l.total ≡ min (spec.total spec.external_weight (map external_of (drop l.i l.externals))) (2 ^ 64 - 1)
