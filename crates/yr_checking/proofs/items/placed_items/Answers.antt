use Rattle.std.proofs.Common.{map}
use Rattle.yr_checking.specs.Placed.{item_at}
use Rattle.yr_checks.specs.Sources.{items_of, unit_of}
use Rattle.yr_checking.proofs.ItemLemmas.{unit_added}
use Rattle.yr_checking.proofs.ListLemmas.{from_place}
use Rattle.yr_checking.proofs.items.placed_items.Goals as goal

pub loop-number-preserved : goal.loop-number-preserved
loop-number-preserved c =
    let units = c.args.units.now in let n = c.loop-number.number in let unit = c.index-units-number.result in
    unit_added units n unit (map item_at c.loop-number.all.items) (map item_at c.push_unit.new.all.items) (items_of (map unit_of units))
    (from_place units n unit c.loop-number-test.true c.index-units-number.is) c.in_ok-push_unit.ensures c.loop-number.invariant
