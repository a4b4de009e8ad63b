use Rattle.std.proofs.Common.{◌≡◌, ℕ, ◌+◌, ◌*◌, ◌<◌, Contains, length, refl, sym, ap, ◌∙◌, arith}
use Rattle.yr_hits.specs.Walks.{with_match}
use Rattle.yr_hits.proofs.OrderLemmas.{count_all}
use Rattle.yr_hits.proofs.PaidLemmas.{paid_start, paid_more, paid_all}
use Rattle.yr_hits.proofs.PlaceLemmas.{end_behind, from_none, from_more, from_all}
use Rattle.yr_hits.proofs.by_spans.over_spans.Goals as goal

pub falling-init : goal.falling-init
falling-init g c =
    let hit = c.args.hit.now in
    let hits = c.args.hits.now in
    let walk = c.args.walk.now in
    let n = hit.row.atom_length in
    let past : length hit.file.now < walk.starts.place + n = omega (arith, c.requires.place, c.requires.good.begins, c.requires.good.inside) in
    let less : (e : ℕ) → Contains hits e → e < walk.starts.place + n = λ e h. let inside = c.requires.hits e h in omega (arith, inside.0, past) in
    record {
      walk = c.requires.walk;
      ready = c.requires.ready;
      midway = c.requires.midway;
      moves = (refl, refl);
      inside = omega (arith, c.requires.place, c.requires.good.begins, c.requires.good.inside);
      left = count_all hits (walk.starts.place + n) less;
      grows = from_none hit c.requires.good hits c.requires.hits c.args.list.now.items walk.starts.place past;
      up = omega arith;
      paid =
          paid_start (2 * length walk.ends.moves + 2 * length walk.starts.moves + 2) (length hit.file.now + 1) 0 (length hits) walk.starts.place c.args.steps.now
          (omega (arith, c.requires.place));
    }

pub add_span-requires : goal.add_span-requires
add_span-requires g c = λ j is.
    let hit = c.args.hit.now in
    let behind = end_behind hit c.requires.good c.args.hits.now c.requires.hits c.next_end-end.new.walk.starts.place c.next_end-end.result c.next_end-end.ensures.end j is in
    omega (arith, behind, c.place-start.ensures)

pub falling-preserved : goal.falling-preserved
falling-preserved g c =
    let hit = c.args.hit.now in
    let hits = c.args.hits.now in
    let inv = c.falling.invariant in
    let walk = c.falling.walk in
    let new = c.next_end-end.new.walk in
    let down : walk.starts.place ≡ new.starts.place + 1 = sym c.next_end-end.ensures.place in
    let listed = c.in_ok-add_span.ensures.list ∙ ap (λ s. with_match s c.next_end-end.result c.falling.list.items) c.place-start.ensures in
    record {
      walk = c.next_end-end.ensures.walk;
      ready = c.next_end-end.ensures.ready;
      midway = c.next_end-end.ensures.midway;
      moves = (c.next_end-end.ensures.moves.0 ∙ inv.moves.0, c.next_end-end.ensures.moves.1 ∙ inv.moves.1);
      inside = omega (arith, inv.inside, down);
      left = c.next_end-end.ensures.left;
      grows =
          from_more hit c.requires.good hits c.requires.hits new.starts.place walk.starts.place c.next_end-end.result c.args.list.now.items c.falling.list.items c.add_span.new.list.items down
          inv.grows c.next_end-end.ensures.end listed;
      up = omega (arith, inv.up, c.next_end-end.ensures.least_cost, c.in_ok-add_span.ensures.least_cost);
      paid =
          paid_more (2 * length c.args.walk.now.ends.moves + 2 * length c.args.walk.now.starts.moves + 2) (length hit.file.now + 1) 0 (length hits) walk.starts.place new.starts.place c.falling.left
          c.next_end-end.new.left c.args.steps.now c.falling.steps c.add_span.new.steps inv.paid down c.next_end-end.ensures.falls
          (omega (arith, c.next_end-end.ensures.most_cost, c.in_ok-add_span.ensures.most_cost, inv.moves.0, inv.moves.1));
    }

pub returns-in_err-add_span-clause-most_cost : goal.returns-in_err-add_span-clause-most_cost
returns-in_err-add_span-clause-most_cost g c =
    let hit = c.args.hit.now in
    let inv = c.falling.invariant in
    let walk = c.falling.walk in
    let new = c.next_end-end.new.walk in
    let down : walk.starts.place ≡ new.starts.place + 1 = sym c.next_end-end.ensures.place in
    paid_all (2 * length c.args.walk.now.ends.moves + 2 * length c.args.walk.now.starts.moves + 2) (length hit.file.now + 1) 0 (length c.args.hits.now) new.starts.place c.next_end-end.new.left
    c.args.steps.now c.add_span.new.steps
    (paid_more (2 * length c.args.walk.now.ends.moves + 2 * length c.args.walk.now.starts.moves + 2) (length hit.file.now + 1) 0 (length c.args.hits.now) walk.starts.place new.starts.place c.falling.left
    c.next_end-end.new.left c.args.steps.now c.falling.steps c.add_span.new.steps inv.paid down c.next_end-end.ensures.falls
    (omega (arith, c.next_end-end.ensures.most_cost, c.in_err-add_span.ensures.most_cost, inv.moves.0, inv.moves.1)))

pub returns-clause-grows : goal.returns-clause-grows
returns-clause-grows g c =
    from_all c.args.hit.now c.requires.good c.args.hits.now c.requires.hits c.args.list.now.items c.falling.list.items c.falling.walk.starts.place
    (omega (arith, c.falling-test.false, c.place.ensures)) c.falling.invariant.grows

pub returns-clause-most_cost : goal.returns-clause-most_cost
returns-clause-most_cost g c =
    paid_all (2 * length c.args.walk.now.ends.moves + 2 * length c.args.walk.now.starts.moves + 2) (length c.args.hit.now.file.now + 1) 0 (length c.args.hits.now) c.falling.walk.starts.place
    c.falling.left c.args.steps.now c.falling.steps c.falling.invariant.paid
