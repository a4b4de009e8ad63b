use Rattle.std.proofs.Common.{◌≡◌, ◌-◌, ◌<◌, rules, arith, inl, inr}
use Rattle.std.specs.Prelude.{slice_index}
use Rattle.yr_hits.proofs.OrderLemmas.{behind_more, count_to}
use Rattle.yr_hits.proofs.counting.count_below.Goals as goal

pub down-init : goal.down-init
down-init c = record {
  falls = omega arith;
  behind = λ q le lt. let more = c.requires.below.behind q le lt in omega (arith, more);
}

pub down-preserved : goal.down-preserved
down-preserved c = record {
  falls = omega (arith, c.down.invariant.falls);
  behind =
      let some : 0 < c.down.left = search rules in
      let here : slice_index c.args.hits.now (c.down.left - 1) ≡ c.args.place = search rules in
      behind_more c.args.hits.now c.args.place (c.down.left - 1) (λ q le lt. c.down.invariant.behind q (omega (arith, le, some)) lt) here;
}

pub returns-else-hits-left-clause-below : goal.returns-else-hits-left-clause-below
returns-else-hits-left-clause-below c =
    let other : (slice_index c.args.hits.now (c.down.left - 1) ≡ c.args.place) → ⊥ = search rules in
    count_to c.args.hits.now c.args.place c.args.count c.down.left c.requires.ascending c.requires.below c.down.invariant.falls c.down.invariant.behind (inr other)

pub returns-after-down-clause-below : goal.returns-after-down-clause-below
returns-after-down-clause-below c =
    count_to c.args.hits.now c.args.place c.args.count c.down.left c.requires.ascending c.requires.below c.down.invariant.falls c.down.invariant.behind
    (inl (omega (arith, c.down-test.false)))
