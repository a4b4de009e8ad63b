use Rattle.std.proofs.Common.{◌<◌, length, map, ℕ, ◌+◌, ◌-◌, ◌/◌, List, Bor, get_or, arith, true, false}
use Rattle.yr_name_tables.specs.Order.{IsOrder}
use Rattle.yr_name_tables.proofs.NameLemmas.{length-map'}
use Rattle.yr_name_tables.proofs.OrderLemmas.{narrowed-start, narrowed-low, narrowed-high, narrowed-place, order-numbers, asked}
use Rattle.yr_name_tables.proofs.order.place.Goals as goal

pub loop-low-init : goal.loop-low-init
loop-low-init c = narrowed-start c.args.order.now (map (λ (n : Bor (List ℕ)). n.now) c.args.names.now) c.args.front.now c.args.wild c.args.through

named : (order : List ℕ) (names : List (Bor (List ℕ))) (k : ℕ) → IsOrder order (map (λ (n : Bor (List ℕ)). n.now) names) → k < length order → get_or order k 0 < length names
named order names k o h = omega (arith, o.within, order-numbers order (map (λ (n : Bor (List ℕ)). n.now) names) o k 0 h, length-map' (λ (n : Bor (List ℕ)). n.now) names)

pub bounds-names-order : goal.bounds-names-order
bounds-names-order c = named c.args.order.now c.args.names.now (c.loop-low.low + (c.loop-low.high - c.loop-low.low) / 2) c.requires (omega arith)

pub loop-low-preserved-then-comes_before : goal.loop-low-preserved-then-comes_before
loop-low-preserved-then-comes_before c =
    let order = c.args.order.now in
    let names = c.args.names.now in
    let middle = c.loop-low.low + (c.loop-low.high - c.loop-low.low) / 2 in
    let within : middle < length order = omega arith in
    let test = asked names (get_or order middle 0) _ c.args.front.now c.args.wild c.args.through c.comes_before.result true (named order names middle c.requires within) c.comes_before.ensures c.if-comes_before.true in
    narrowed-low order (map (λ (n : Bor (List ℕ)). n.now) names) c.args.front.now c.args.wild c.args.through c.loop-low.low c.loop-low.high middle c.requires c.loop-low.invariant (omega arith) test

pub loop-low-preserved : goal.loop-low-preserved
loop-low-preserved c =
    let order = c.args.order.now in
    let names = c.args.names.now in
    let middle = c.loop-low.low + (c.loop-low.high - c.loop-low.low) / 2 in
    let within : middle < length order = omega arith in
    let test = asked names (get_or order middle 0) _ c.args.front.now c.args.wild c.args.through c.comes_before.result false (named order names middle c.requires within) c.comes_before.ensures c.if-comes_before.false in
    narrowed-high order (map (λ (n : Bor (List ℕ)). n.now) names) c.args.front.now c.args.wild c.args.through c.loop-low.low c.loop-low.high middle c.requires c.loop-low.invariant (omega arith) (omega arith) test

pub returns-clause-place : goal.returns-clause-place
returns-clause-place c = narrowed-place c.args.order.now (map (λ (n : Bor (List ℕ)). n.now) c.args.names.now) c.args.front.now c.args.wild c.args.through c.loop-low.low c.loop-low.high c.loop-low.invariant c.loop-low-test.false
