use Rattle.std.proofs.Common.{◌-◌, length, map}
use Rattle.yr_name_tables.specs.Order.{IsOrder}
use Rattle.yr_name_tables.proofs.order.sort_names.Given as goal

abbrev pub invariant-loop-order : goal.invariant-loop-order
invariant-loop-order l = IsOrder l.order.items (map (λ n. n.now) l.names)

abbrev pub decreases-loop-order : goal.decreases-loop-order
decreases-loop-order l = length l.names - length l.order.items
