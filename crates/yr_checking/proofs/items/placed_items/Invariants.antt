use Rattle.std.proofs.Common.{◌≡◌, ◌++◌, drop, map}
use Rattle.yr_checking.specs.Placed.{item_at}
use Rattle.yr_checks.specs.Sources.{items_from, items_of, unit_of}
use Rattle.yr_checking.proofs.items.placed_items.Given as goal

abbrev pub invariant-loop-number : goal.invariant-loop-number
invariant-loop-number l = map item_at l.all.items ++ items_from l.number (map unit_of (drop l.number l.units)) ≡ items_of (map unit_of l.units)
