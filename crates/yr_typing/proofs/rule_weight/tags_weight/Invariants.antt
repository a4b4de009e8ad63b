use Rattle.std.proofs.Common.{◌≡◌, ◌-◌, ◌^◌, map, min, drop}
use Rattle.yr_rules.specs.Weight as spec
use Rattle.yr_syntax.specs.Declaration.{bytes_of}
use Rattle.yr_typing.proofs.rule_weight.tags_weight.Given as goal

abbrev pub invariant-loop-i : goal.invariant-loop-i
invariant-loop-i l = l.total ≡ min (spec.total spec.tag_weight (map bytes_of (drop l.i l.tags))) (2 ^ 64 - 1)
