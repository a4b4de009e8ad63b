use Rattle.std.proofs.Common.{◌≡◌, ℕ, ◌+◌, ◌-◌, ◌*◌, ◌<◌, Contains, length, refl, sym, ap, ◌∙◌, subst, arith}
use Rattle.yr_walks.specs.StartWalks as starts
use Rattle.yr_image.specs.Views.{image_of}
use Rattle.yr_hits.specs.Programs.{HasRoom}
use Rattle.yr_hits.specs.Walks.{with_match}
use Rattle.yr_hits.proofs.OrderLemmas.{count_all}
use Rattle.yr_hits.proofs.PaidLemmas.{paid_start, paid_more, paid_all}
use Rattle.yr_hits.proofs.PlaceLemmas.{end_behind, from_none, from_more, from_all}
use Rattle.yr_hits.proofs.SweepStartLemmas.{start_walk_on}
use Rattle.yr_hits.proofs.by_starts.over_starts.Goals as goal

pub falling-init : goal.falling-init
falling-init g c =
    let hit = c.args.hit.now in
    let hits = c.args.hits.now in
    let walk = c.args.walk.now in
    let n = hit.row.atom_length in
    let past : length hit.file.now < walk.place + n = omega (arith, c.requires.place, c.requires.good.begins, c.requires.good.inside) in
    let less : (e : ℕ) → Contains hits e → e < walk.place + n = λ e h. let inside = c.requires.hits e h in omega (arith, inside.0, past) in
    record {
      walk = c.requires.walk;
      ready = c.requires.ready;
      midway = c.requires.midway;
      moves = refl;
      inside = omega (arith, c.requires.place, c.requires.good.begins, c.requires.good.inside);
      left = count_all hits (walk.place + n) less;
      room = refl;
      grows = from_none hit c.requires.good hits c.requires.hits c.args.list.now.items walk.place past;
      up = omega arith;
      paid = paid_start (2 * length walk.moves + 2) (length hit.file.now + 1) 1 (length hits) walk.place c.args.steps.now (omega (arith, c.requires.place));
    }

pub next_end-end-requires-clause-room : goal.next_end-end-requires-clause-room
next_end-end-requires-clause-room g c = subst (HasRoom (image_of c.args.hit.now.view.now)) (sym c.falling.invariant.room) c.requires.room

pub add_span-requires : goal.add_span-requires
add_span-requires g c = λ j is.
    let hit = c.args.hit.now in
    let behind = end_behind hit c.requires.good c.args.hits.now c.requires.hits c.next_end-end.new.walk.place c.next_end-end.result c.next_end-end.ensures.end j is in
    omega (arith, behind, c.place-start.ensures)

pub falling-preserved : goal.falling-preserved
falling-preserved g c =
    let hit = c.args.hit.now in
    let hits = c.args.hits.now in
    let inv = c.falling.invariant in
    let walk = c.falling.walk in
    let new = c.next_end-end.new.walk in
    let is = c.next_end-end.ensures.walk in
    let old : new.place ≡ walk.place - 1 = ap (λ (w : starts.Walk). w.place) is in
    let down : walk.place ≡ new.place + 1 = omega (arith, old, c.falling-test.true, c.place.ensures) in
    let listed = c.in_ok-add_span.ensures.list ∙ ap (λ s. with_match s c.next_end-end.result c.falling.list.items) c.place-start.ensures in
    record {
      walk = start_walk_on hit walk (walk.place - 1) new is inv.walk;
      ready = c.next_end-end.ensures.ready;
      midway = c.next_end-end.ensures.midway;
      moves = ap (λ (w : starts.Walk). length w.moves) is ∙ inv.moves;
      inside = omega (arith, inv.inside, old);
      left = c.next_end-end.ensures.left;
      room = c.next_end-end.ensures.room ∙ inv.room;
      grows =
          from_more hit c.requires.good hits c.requires.hits new.place walk.place c.next_end-end.result c.args.list.now.items c.falling.list.items c.add_span.new.list.items down
          inv.grows c.next_end-end.ensures.end listed;
      up = omega (arith, inv.up, c.next_end-end.ensures.least_cost, c.in_ok-add_span.ensures.least_cost);
      paid =
          paid_more (2 * length c.args.walk.now.moves + 2) (length hit.file.now + 1) 1 (length hits) walk.place new.place c.falling.left c.next_end-end.new.left c.args.steps.now c.falling.steps c.add_span.new.steps
          inv.paid down c.next_end-end.ensures.falls
          (omega (arith, c.next_end-end.ensures.most_cost, c.in_ok-add_span.ensures.most_cost, inv.moves));
    }

pub returns-in_err-add_span-clause-room : goal.returns-in_err-add_span-clause-room
returns-in_err-add_span-clause-room g c = c.next_end-end.ensures.room ∙ c.falling.invariant.room

pub returns-in_err-add_span-clause-most_cost : goal.returns-in_err-add_span-clause-most_cost
returns-in_err-add_span-clause-most_cost g c =
    let hit = c.args.hit.now in
    let inv = c.falling.invariant in
    let walk = c.falling.walk in
    let new = c.next_end-end.new.walk in
    let old : new.place ≡ walk.place - 1 = ap (λ (w : starts.Walk). w.place) c.next_end-end.ensures.walk in
    let down : walk.place ≡ new.place + 1 = omega (arith, old, c.falling-test.true, c.place.ensures) in
    paid_all (2 * length c.args.walk.now.moves + 2) (length hit.file.now + 1) 1 (length c.args.hits.now) new.place c.next_end-end.new.left c.args.steps.now c.add_span.new.steps
    (paid_more (2 * length c.args.walk.now.moves + 2) (length hit.file.now + 1) 1 (length c.args.hits.now) walk.place new.place c.falling.left c.next_end-end.new.left c.args.steps.now c.falling.steps
    c.add_span.new.steps inv.paid down c.next_end-end.ensures.falls
    (omega (arith, c.next_end-end.ensures.most_cost, c.in_err-add_span.ensures.most_cost, inv.moves)))

pub returns-clause-grows : goal.returns-clause-grows
returns-clause-grows g c =
    from_all c.args.hit.now c.requires.good c.args.hits.now c.requires.hits c.args.list.now.items c.falling.list.items c.falling.walk.place (omega (arith, c.falling-test.false, c.place.ensures))
    c.falling.invariant.grows

pub returns-clause-most_cost : goal.returns-clause-most_cost
returns-clause-most_cost g c =
    paid_all (2 * length c.args.walk.now.moves + 2) (length c.args.hit.now.file.now + 1) 1 (length c.args.hits.now) c.falling.walk.place c.falling.left c.args.steps.now c.falling.steps c.falling.invariant.paid
