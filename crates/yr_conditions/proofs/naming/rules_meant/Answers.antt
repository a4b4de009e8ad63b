use Rattle.std.proofs.Common.{◌≤◌, length, map, arith}
use Rattle.yr_syntax.specs.Condition.{item_of}
use Rattle.yr_conditions.proofs.NumberLemmas.{rules-end}
use Rattle.yr_conditions.proofs.naming.rules_meant.Goals as goal

pub returns : goal.returns
returns c =
    let places = c.deref-place-items.result.now in
    let over : length places ≤ c.loop-place.place-index = omega arith in
    rules-end (map item_of c.args.items.now) c.loop-place.place-index c.args.rules.now c.args.numbers.now c.loop-place.met.items c.in_ok-places.places.items places c.requires over
    c.deref-place-items.ensures.value c.in_ok-places.ensures.numbers c.loop-place.invariant
