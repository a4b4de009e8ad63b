use Rattle.std.proofs.Common.{map, List, ℕ, Bor, arith, subst}
use Rattle.yr_syntax.specs.Condition.{item_of}
use Rattle.yr_name_tables.specs.Order.{IsRange}
use Rattle.yr_name_tables.proofs.ItemLemmas.{ranges-none, ranges-more}
use Rattle.yr_name_tables.proofs.ranges.ranges_of.Goals as goal

pub loop-item-init : goal.loop-item-init
loop-item-init c = ranges-none c.args.order.now (map (λ (n : Bor (List ℕ)). n.now) c.args.names.now) c.new-ranges.result.items c.new-ranges.ensures.items

pub loop-item-preserved : goal.loop-item-preserved
loop-item-preserved c =
    let order = c.args.order.now in
    let names = map (λ (n : Bor (List ℕ)). n.now) c.args.names.now in
    let item = c.item-item.result in
    let range = c.range_of-range.result in
    ranges-more item_of order names c.args.items.now c.loop-item.item-index item c.loop-item.ranges.items c.push.new.self.items range (omega arith) c.item-item.is c.loop-item.invariant
    (subst (λ (n : List ℕ). IsRange order names n item.wild range) c.deref.ensures.value c.range_of-range.ensures)
    c.in_ok-push.ensures.items
