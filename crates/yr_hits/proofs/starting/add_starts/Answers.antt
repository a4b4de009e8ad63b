use Rattle.std.proofs.Common.{◌≡◌, ◌+◌, ◌↔◌, ℕ, length, sym, ap, ◌∙◌, subst, arith}
use Rattle.yr_rows.specs.Accepts.{AcceptsBackwards}
use Rattle.yr_image.specs.Views.{image_of}
use Rattle.yr_moves.specs.Walks.{Walk}
use Rattle.yr_machine.specs.Budget.{moves_count}
use Rattle.yr_hits.specs.Gathering.{Grows}
use Rattle.yr_hits.specs.Spans.{begin_of, StartsAt}
use Rattle.yr_hits.proofs.HitLemmas.{fields, program_there}
use Rattle.yr_hits.proofs.StartLemmas.{SpansFrom, program_starts, none_yet, one_more, all_done, finds_keep, paid_start, Paid, step_cost, paid_more, paid_all, paid_last}
use Rattle.yr_hits.proofs.starting.add_starts.Goals as goal

pub program-rows-requires-clause-inside : goal.program-rows-requires-clause-inside
program-rows-requires-clause-inside g c =
    let hit = c.args.hit.now in
    program_there (image_of hit.view.now) hit.row.before_kind hit.row.before_place hit.row.before_length (fields hit c.requires.good).before c.requires.kind

pub falling-init : goal.falling-init
falling-init g c =
    let hit = c.args.hit.now in
    let walk = c.starts-walk.result in
    let is = c.starts-walk.ensures.walk in
    let rows = c.program-rows.result in
    let F : Walk → Type 0 = λ w. (i : ℕ) → (StartsAt hit i) ↔ (AcceptsBackwards w.moves w.sets w.file i w.at) in
    let all = program_starts hit c.requires.good rows c.requires.kind c.program-rows.ensures in
    let place : walk.place ≡ begin_of hit + 1 = ap (λ (w : Walk). w.place) is in
    record {
      midway = c.starts-walk.ensures.midway;
      finds = record { same = subst F (sym is) all };
      place = omega (arith, place);
      moves = ap (λ (w : Walk). length w.moves) is ∙ c.program-rows.ensures.size;
      room = c.starts-walk.ensures.room;
      grows = none_yet hit c.requires.good c.args.list.now.items walk.place place;
      up = omega arith;
      paid = paid_start (moves_count (image_of hit.view.now) hit.row.before_place) (begin_of hit + 1) walk.place c.args.steps.now place;
    }

pub add_match-requires-clause-start : goal.add_match-requires-clause-start
add_match-requires-clause-start g c = (c.falling.invariant.finds.same c.in-Some.start).1 c.in-Some.ensures.start.0.0

pub falling-preserved : goal.falling-preserved
falling-preserved g c =
    let hit = c.args.hit.now in
    let inv = c.falling.invariant in
    let old = c.falling.walk in
    let new = c.next.new.self in
    let is = c.in-Some.ensures.walk in
    let best = c.in-Some.ensures.start in
    let place : new.place ≡ c.in-Some.start = ap (λ (w : Walk). w.place) is in
    let size : length new.moves ≡ length old.moves = ap (λ (w : Walk). length w.moves) is in
    let moves = moves_count (image_of hit.view.now) hit.row.before_place in
    let G : ℕ → Type 0 = λ p. Grows (SpansFrom hit p) hit.greatest c.args.list.now.items c.add_match.new.list.items in
    record {
      midway = c.in-Some.ensures.midway.0;
      finds = finds_keep hit old c.in-Some.start new is inv.finds;
      place = omega (arith, place, best.0.1, inv.place);
      moves = size ∙ inv.moves;
      room = c.in-Some.ensures.midway.1 ∙ inv.room;
      grows = subst G (sym place) (one_more hit c.requires.good old c.in-Some.start c.args.list.now.items c.falling.list.items c.add_match.new.list.items inv.finds best inv.grows c.in_ok-add_match.ensures.grows);
      up = omega (arith, inv.up, c.in-Some.ensures.never_falls, c.in_ok-add_match.ensures.least_cost);
      paid = subst (λ p. Paid moves (begin_of hit + 1) p c.args.steps.now c.add_match.new.steps) (sym place)
          (paid_more moves (begin_of hit + 1) old.place c.in-Some.start c.args.steps.now c.falling.steps c.next.new.steps c.add_match.new.steps inv.paid
          (step_cost (length old.moves) moves old.place new.place c.in-Some.start c.falling.steps c.next.new.steps inv.moves place c.in-Some.ensures.most_cost)
          best.0.1 c.in_ok-add_match.ensures.most_cost);
    }

pub returns-in_err-add_match-clause-most_cost : goal.returns-in_err-add_match-clause-most_cost
returns-in_err-add_match-clause-most_cost g c =
    let hit = c.args.hit.now in
    let inv = c.falling.invariant in
    let old = c.falling.walk in
    let moves = moves_count (image_of hit.view.now) hit.row.before_place in
    let place : c.next.new.self.place ≡ c.in-Some.start = ap (λ (w : Walk). w.place) c.in-Some.ensures.walk in
    paid_all moves (begin_of hit + 1) c.in-Some.start c.args.steps.now c.add_match.new.steps
    (paid_more moves (begin_of hit + 1) old.place c.in-Some.start c.args.steps.now c.falling.steps c.next.new.steps c.add_match.new.steps inv.paid
    (step_cost (length old.moves) moves old.place c.next.new.self.place c.in-Some.start c.falling.steps c.next.new.steps inv.moves place c.in-Some.ensures.most_cost)
    c.in-Some.ensures.start.0.1 c.in_err-add_match.ensures.most_cost)

pub returns-clause-grows : goal.returns-clause-grows
returns-clause-grows g c =
    all_done c.args.hit.now c.requires.good c.falling.walk c.args.list.now.items c.falling.list.items c.falling.invariant.finds c.in_default.ensures.none c.falling.invariant.grows

pub returns-clause-most_cost : goal.returns-clause-most_cost
returns-clause-most_cost g c =
    let hit = c.args.hit.now in
    let inv = c.falling.invariant in
    let old = c.falling.walk in
    let moves = moves_count (image_of hit.view.now) hit.row.before_place in
    let place : c.next.new.self.place ≡ 0 = ap (λ (w : Walk). w.place) c.in_default.ensures.walk in
    paid_last moves (begin_of hit + 1) old.place 0 c.args.steps.now c.falling.steps c.next.new.steps inv.paid (omega arith)
    (step_cost (length old.moves) moves old.place c.next.new.self.place 0 c.falling.steps c.next.new.steps inv.moves place c.in_default.ensures.most_cost)
