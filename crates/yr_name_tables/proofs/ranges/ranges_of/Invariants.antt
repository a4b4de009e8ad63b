use Rattle.std.proofs.Common.{map, take}
use Rattle.yr_syntax.specs.Condition.{item_of}
use Rattle.yr_name_tables.specs.Order.{AreRanges}
use Rattle.yr_name_tables.proofs.ranges.ranges_of.Given as goal

abbrev pub invariant-loop-item : goal.invariant-loop-item
invariant-loop-item l = AreRanges l.order (map (λ n. n.now) l.names) (map item_of (take l.item-index l.items)) l.ranges.items
