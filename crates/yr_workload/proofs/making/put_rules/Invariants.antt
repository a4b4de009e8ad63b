use Rattle.std.proofs.Common.{◌≡◌, flat_map}
use Rattle.std.specs.List.{range_with_len}
use Rattle.yr_workload.specs.Workload.{rule_line}
use Rattle.yr_workload.proofs.making.put_rules.Given as goal

abbrev pub invariant-loop-i : goal.invariant-loop-i
invariant-loop-i l = l.rules.items ≡ flat_map (rule_line l.number) (range_with_len 0 l.i)
