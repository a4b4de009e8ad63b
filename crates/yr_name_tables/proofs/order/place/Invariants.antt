use Rattle.std.proofs.Common.{map, ◌-◌}
use Rattle.yr_name_tables.proofs.OrderLemmas.{IsNarrowed}
use Rattle.yr_name_tables.proofs.order.place.Given as goal

abbrev pub invariant-loop-low : goal.invariant-loop-low
invariant-loop-low l = IsNarrowed l.order (map (λ n. n.now) l.names) l.front l.wild l.through l.low l.high

abbrev pub decreases-loop-low : goal.decreases-loop-low
decreases-loop-low l = l.high - l.low
