use Rattle.std.proofs.Common.{◌≡◌, ◌≤◌, ◌<◌, ◌+◌, ◌-◌, length, refl, sym, ◌∙◌, subst, arith}
use Rattle.std.specs.Prelude.{slice_index}
use Rattle.yr_image.specs.Views.{image_of}
use Rattle.yr_machine.specs.Budget.{hit_cost}
use Rattle.yr_hits.specs.declared.hit.Hit.{Hit}
use Rattle.yr_hits.specs.Gathering.{Grows}
use Rattle.yr_hits.specs.Programs.{HasRoom}
use Rattle.yr_hits.specs.Spans.{IsGoodHit, IsSpanOf}
use Rattle.yr_hits.specs.Sweeps.{SpansOfRest, hit_after}
use Rattle.yr_hits.proofs.OrderLemmas.{contains_at}
use Rattle.yr_hits.proofs.PaidLemmas.{each_start, each_more, each_done}
use Rattle.yr_hits.proofs.SweepLemmas.{good_after, spans_as, rest_none, rest_more, rest_all}
use Rattle.yr_hits.proofs.one_by_one.one_by_one.Goals as goal

pub along-init : goal.along-init
along-init g c =
    let hit = c.args.hit.now in
    let hits = c.args.hits.now in
    record {
      inside = omega arith;
      grows = rest_none hit hits c.args.list.now.items (length hits) refl;
      room = refl;
      up = omega arith;
      paid = each_start (hit_cost (image_of hit.view.now) (length hit.file.now) hit.row) (length hits) (length hits) c.args.steps.now refl;
    }

pub add_matches-requires-clause-good : goal.add_matches-requires-clause-good
add_matches-requires-clause-good g c =
    let hit = c.args.hit.now in
    let hits = c.args.hits.now in
    let k = c.along.k - 1 in
    let lt : k < length hits = omega (arith, c.along-test.true, c.along.invariant.inside) in
    subst IsGoodHit (sym c.moved.ensures) (good_after hit c.requires.good (slice_index hits k) (c.requires.hits (slice_index hits k) (contains_at hits k lt)))

pub add_matches-requires-clause-room : goal.add_matches-requires-clause-room
add_matches-requires-clause-room g c =
    let R : Hit → Type 0 = λ h. HasRoom (image_of h.view.now) c.along.marks.room in
    subst R (sym c.moved.ensures) (subst (HasRoom (image_of c.args.hit.now.view.now)) (sym c.along.invariant.room) c.requires.room)

pub along-preserved : goal.along-preserved
along-preserved g c =
    let hit = c.args.hit.now in
    let hits = c.args.hits.now in
    let inv = c.along.invariant in
    let k = c.along.k - 1 in
    let e = slice_index hits k in
    let lt : k < length hits = omega (arith, c.along-test.true, inv.inside) in
    let down : c.along.k ≡ k + 1 = omega (arith, c.along-test.true) in
    let list = c.args.list.now.items in
    let a = c.along.list.items in
    let b = c.add_matches.new.list.items in
    let good = good_after hit c.requires.good e (c.requires.hits e (contains_at hits k lt)) in
    let grown : Grows (IsSpanOf (hit_after hit e)) hit.greatest a b = subst (λ (h : Hit). Grows (IsSpanOf h) h.greatest a b) c.moved.ensures c.in_ok-add_matches.ensures.grows in
    let cost : c.add_matches.new.steps + 1 ≤ c.along.steps + hit_cost (image_of hit.view.now) (length hit.file.now) hit.row =
    subst (λ (h : Hit). c.add_matches.new.steps + 1 ≤ c.along.steps + hit_cost (image_of h.view.now) (length h.file.now) h.row) c.moved.ensures c.in_ok-add_matches.ensures.most_cost
    in
    record {
      inside = omega (arith, lt);
      grows = rest_more hit hits k list a b lt (subst (λ n. Grows (SpansOfRest hit hits n) hit.greatest list a) down inv.grows) (spans_as (hit_after hit e) good a b grown);
      room = c.in_ok-add_matches.ensures.room ∙ inv.room;
      up = omega (arith, inv.up, c.in_ok-add_matches.ensures.least_cost);
      paid = each_more (hit_cost (image_of hit.view.now) (length hit.file.now) hit.row) (length hits) c.along.k k c.args.steps.now c.along.steps c.add_matches.new.steps inv.paid down cost;
    }

pub returns-in_err-add_matches-clause-most_cost : goal.returns-in_err-add_matches-clause-most_cost
returns-in_err-add_matches-clause-most_cost g c =
    let hit = c.args.hit.now in
    let hits = c.args.hits.now in
    let inv = c.along.invariant in
    let k = c.along.k - 1 in
    let down : c.along.k ≡ k + 1 = omega (arith, c.along-test.true) in
    let cost : c.add_matches.new.steps + 1 ≤ c.along.steps + hit_cost (image_of hit.view.now) (length hit.file.now) hit.row =
    subst (λ (h : Hit). c.add_matches.new.steps + 1 ≤ c.along.steps + hit_cost (image_of h.view.now) (length h.file.now) h.row) c.moved.ensures c.in_err-add_matches.ensures.most_cost
    in
    each_done (hit_cost (image_of hit.view.now) (length hit.file.now) hit.row) (length hits) k c.args.steps.now c.add_matches.new.steps
    (each_more (hit_cost (image_of hit.view.now) (length hit.file.now) hit.row) (length hits) c.along.k k c.args.steps.now c.along.steps c.add_matches.new.steps inv.paid down cost)
    (omega arith)

pub returns-clause-grows : goal.returns-clause-grows
returns-clause-grows g c =
    rest_all c.args.hit.now c.args.hits.now c.args.list.now.items c.along.list.items c.along.k (omega (arith, c.along-test.false)) c.along.invariant.grows

pub returns-clause-most_cost : goal.returns-clause-most_cost
returns-clause-most_cost g c =
    let hit = c.args.hit.now in
    each_done (hit_cost (image_of hit.view.now) (length hit.file.now) hit.row) (length c.args.hits.now) c.along.k c.args.steps.now c.along.steps c.along.invariant.paid (omega arith)
