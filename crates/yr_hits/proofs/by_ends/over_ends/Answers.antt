use Rattle.std.proofs.Common.{◌≡◌, ◌<◌, ℕ, ◌+◌, ◌-◌, ◌*◌, Contains, length, nat_lt, refl, sym, ap, ◌∙◌, subst, arith}
use Rattle.std.proofs.lemmas.Bool.{lt-ltb, ltb-true}
use Rattle.yr_walks.specs.EndWalks as ends
use Rattle.yr_hits.specs.Gathering.{Grows}
use Rattle.yr_hits.specs.Spans.{AreEnds}
use Rattle.yr_hits.specs.Sweeps.{hit_after, IsInside, IsCountBelow, IsPaid, SpansOfLater}
use Rattle.yr_hits.proofs.OrderLemmas.{is_there, is_counted, count_all}
use Rattle.yr_hits.proofs.PaidLemmas.{paid_start, paid_more, paid_all, paid_if}
use Rattle.yr_hits.proofs.SweepLemmas.{later_none, later_more, later_all}
use Rattle.yr_hits.proofs.EndLemmas.{end_walk_on}
use Rattle.yr_hits.proofs.by_ends.over_ends.Goals as goal

pub falling-init : goal.falling-init
falling-init g c =
    let hit = c.args.hit.now in
    let hits = c.args.hits.now in
    let walk = c.args.walk.now in
    let less : (e : ℕ) → Contains hits e → e < walk.place = λ e h. let inside = c.requires.hits e h in omega (arith, inside.0, c.requires.place) in
    record {
      midway = c.requires.midway;
      walk = c.requires.walk;
      moves = refl;
      place = omega (arith, c.requires.place);
      left = count_all hits walk.place less;
      grows = later_none hit hits c.args.list.now.items walk.place c.requires.hits (omega (arith, c.requires.place));
      up = omega arith;
      paid = paid_start (2 * length walk.moves) (length hit.file.now + 1) 2 (length hits) walk.place c.args.steps.now (omega (arith, c.requires.place));
    }

pub count_below-below-requires-clause-below : goal.count_below-below-requires-clause-below
count_below-below-requires-clause-below g c =
    let old : c.next-near.new.self.place ≡ c.falling.walk.place - 1 = ap (λ (w : ends.Walk). w.place) c.next-near.ensures.walk in
    let place : c.falling.walk.place ≡ c.place-at.result + 1 = omega (arith, c.place-at.ensures, old, c.falling-test.true, c.place.ensures) in
    subst (λ p. IsCountBelow c.args.hits.now p c.falling.left) place c.falling.invariant.left

pub add_if-requires-clause-inside : goal.add_if-requires-clause-inside
add_if-requires-clause-inside g c = λ there.
    let hits = c.args.hits.now in
    let old : c.next-near.new.self.place ≡ c.falling.walk.place - 1 = ap (λ (w : ends.Walk). w.place) c.next-near.ensures.walk in
    let place : c.falling.walk.place ≡ c.place-at.result + 1 = omega (arith, c.place-at.ensures, old, c.falling-test.true, c.place.ensures) in
    let next : IsCountBelow hits (c.place-at.result + 1) c.falling.left = subst (λ p. IsCountBelow hits p c.falling.left) place c.falling.invariant.left in
    c.requires.hits c.place-at.result
    (is_there hits c.place-at.result c.falling.left c.count_below-below.result next c.count_below-below.ensures.below (ltb-true c.count_below-below.result c.falling.left there))

pub add_if-requires-clause-ends : goal.add_if-requires-clause-ends
add_if-requires-clause-ends g c = λ there.
    let hit = c.args.hit.now in
    let hits = c.args.hits.now in
    let new = c.next-near.new.self in
    let old : new.place ≡ c.falling.walk.place - 1 = ap (λ (w : ends.Walk). w.place) c.next-near.ensures.walk in
    let place : c.falling.walk.place ≡ c.place-at.result + 1 = omega (arith, c.place-at.ensures, old, c.falling-test.true, c.place.ensures) in
    let next : IsCountBelow hits (c.place-at.result + 1) c.falling.left = subst (λ p. IsCountBelow hits p c.falling.left) place c.falling.invariant.left in
    let inside : IsInside hit c.place-at.result =
    c.requires.hits c.place-at.result
    (is_there hits c.place-at.result c.falling.left c.count_below-below.result next c.count_below-below.ensures.below (ltb-true c.count_below-below.result c.falling.left there))
    in
    let E : ℕ → Type 0 = λ p. AreEnds (hit_after hit p) (record { near = c.next-near.result.0; far = c.next-near.result.1 }) in
    subst E (sym c.place-at.ensures)
    (c.falling.invariant.walk.finds new.place c.next-near.result.0 c.next-near.result.1 (subst (IsInside hit) c.place-at.ensures inside) c.next-near.ensures.end c.next-near.ensures.beyond)

pub falling-preserved : goal.falling-preserved
falling-preserved g c =
    let hit = c.args.hit.now in
    let hits = c.args.hits.now in
    let inv = c.falling.invariant in
    let new = c.next-near.new.self in
    let at = c.place-at.result in
    let below = c.count_below-below.result in
    let list = c.args.list.now.items in
    let old : new.place ≡ c.falling.walk.place - 1 = ap (λ (w : ends.Walk). w.place) c.next-near.ensures.walk in
    let place : c.falling.walk.place ≡ at + 1 = omega (arith, c.place-at.ensures, old, c.falling-test.true, c.place.ensures) in
    let next : IsCountBelow hits (at + 1) c.falling.left = subst (λ p. IsCountBelow hits p c.falling.left) place inv.left in
    let here = c.count_below-below.ensures.below in
    let falls = c.count_below-below.ensures.falls in
    let share = paid_if 2 below c.falling.left falls in
    let G : ℕ → Type 0 = λ p. Grows (SpansOfLater hit hits p) hit.greatest list c.add_if.new.list.items in
    let P : ℕ → Type 0 = λ p. IsPaid (2 * length c.args.walk.now.moves) (length hit.file.now + 1) 2 (length hits) p below c.args.steps.now c.add_if.new.steps in
    record {
      midway = c.next-near.ensures.midway;
      walk = end_walk_on hit c.falling.walk (c.falling.walk.place - 1) new c.next-near.ensures.walk inv.walk;
      moves = ap (λ (w : ends.Walk). length w.moves) c.next-near.ensures.walk ∙ inv.moves;
      place = omega (arith, old, inv.place);
      left = subst (λ p. IsCountBelow hits p below) c.place-at.ensures here;
      grows =
          subst G c.place-at.ensures
          (later_more hit hits at c.falling.walk.place (nat_lt below c.falling.left) list c.falling.list.items c.add_if.new.list.items place
          (λ t. is_there hits at c.falling.left below next here (ltb-true below c.falling.left t))
          (λ h. lt-ltb below c.falling.left (is_counted hits at c.falling.left below next here h))
          inv.grows c.in_ok-add_if.ensures.grows);
      up = omega (arith, inv.up, c.next-near.ensures.least_cost, c.in_ok-add_if.ensures.least_cost);
      paid =
          subst P c.place-at.ensures
          (paid_more (2 * length c.args.walk.now.moves) (length hit.file.now + 1) 2 (length hits) c.falling.walk.place at c.falling.left below c.args.steps.now c.falling.steps c.add_if.new.steps inv.paid place falls
          (omega (arith, c.next-near.ensures.most_cost, c.in_ok-add_if.ensures.most_cost, inv.moves, share)));
    }

pub returns-in_err-add_if-clause-most_cost : goal.returns-in_err-add_if-clause-most_cost
returns-in_err-add_if-clause-most_cost g c =
    let hit = c.args.hit.now in
    let hits = c.args.hits.now in
    let inv = c.falling.invariant in
    let at = c.place-at.result in
    let below = c.count_below-below.result in
    let old : c.next-near.new.self.place ≡ c.falling.walk.place - 1 = ap (λ (w : ends.Walk). w.place) c.next-near.ensures.walk in
    let place : c.falling.walk.place ≡ at + 1 = omega (arith, c.place-at.ensures, old, c.falling-test.true, c.place.ensures) in
    let falls = c.count_below-below.ensures.falls in
    let share = paid_if 2 below c.falling.left falls in
    paid_all (2 * length c.args.walk.now.moves) (length hit.file.now + 1) 2 (length hits) at below c.args.steps.now c.add_if.new.steps
    (paid_more (2 * length c.args.walk.now.moves) (length hit.file.now + 1) 2 (length hits) c.falling.walk.place at c.falling.left below c.args.steps.now c.falling.steps c.add_if.new.steps inv.paid place falls
    (omega (arith, c.next-near.ensures.most_cost, c.in_err-add_if.ensures.most_cost, inv.moves, share)))

pub returns-clause-grows : goal.returns-clause-grows
returns-clause-grows g c =
    later_all c.args.hit.now c.args.hits.now c.args.list.now.items c.falling.list.items c.falling.walk.place (omega (arith, c.falling-test.false, c.place.ensures)) c.falling.invariant.grows

pub returns-clause-most_cost : goal.returns-clause-most_cost
returns-clause-most_cost g c =
    paid_all (2 * length c.args.walk.now.moves) (length c.args.hit.now.file.now + 1) 2 (length c.args.hits.now) c.falling.walk.place c.falling.left c.args.steps.now c.falling.steps c.falling.invariant.paid
