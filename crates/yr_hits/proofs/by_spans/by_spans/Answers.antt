use Rattle.std.proofs.Common.{◌≡◌, ◌+◌, ◌-◌, ◌*◌, ◌≤◌, [], length, ap, ◌∙◌, subst, arith}
use Rattle.yr_walks.specs.EndWalks as ends
use Rattle.yr_walks.specs.StartWalks as starts
use Rattle.yr_image.specs.Views.{image_of}
use Rattle.yr_machine.specs.Budget.{moves_count}
use Rattle.yr_hits.proofs.HitLemmas.{fields, program_there}
use Rattle.yr_hits.proofs.SpanLemmas.{is_span_walk, none_among}
use Rattle.yr_hits.proofs.by_spans.by_spans.Goals as goal

pub program-before-requires-clause-inside : goal.program-before-requires-clause-inside
program-before-requires-clause-inside g c =
    let hit = c.args.hit.now in
    program_there (image_of hit.view.now) hit.row.before_kind hit.row.before_place hit.row.before_length (fields hit c.requires.good).before c.requires.before

pub program-after-requires-clause-inside : goal.program-after-requires-clause-inside
program-after-requires-clause-inside g c =
    let hit = c.args.hit.now in
    program_there (image_of hit.view.now) hit.row.after_kind hit.row.after_place hit.row.after_length (fields hit c.requires.good).after c.requires.after

pub over_spans-requires-clause-place : goal.over_spans-requires-clause-place
over_spans-requires-clause-place g c =
    let n = c.args.hit.now.file.now in
    ap (λ (w : starts.Walk). w.place) c.spans-walk.ensures.starts ∙ ap (λ a. length n + 1 - a) c.atom_of-atom.ensures

pub over_spans-requires-clause-walk : goal.over_spans-requires-clause-walk
over_spans-requires-clause-walk g c =
    let hit = c.args.hit.now in
    is_span_walk hit c.requires.good c.program-before.result c.program-after.result c.requires.before c.requires.after c.program-before.ensures c.program-after.ensures
    (length hit.file.now + 1) (length hit.file.now + 1 - c.atom_of-atom.result) c.spans-walk.result c.spans-walk.ensures.ends c.spans-walk.ensures.starts
    (c.spans-walk.ensures.atom ∙ c.atom_of-atom.ensures)

pub over_spans-requires-clause-midway : goal.over_spans-requires-clause-midway
over_spans-requires-clause-midway g c =
    let hit = c.args.hit.now in
    let place : c.spans-walk.result.starts.place ≡ length hit.file.now + 1 - c.atom_of-atom.result = ap (λ (w : starts.Walk). w.place) c.spans-walk.ensures.starts in
    record {
      atoms = [];
      midway = c.spans-walk.ensures.midway;
      are = none_among hit c.args.hits.now c.spans-walk.result.starts.place c.requires.hits
          (omega (arith, place, c.atom_of-atom.ensures, c.requires.good.begins, c.requires.good.inside));
    }

pub returns-clause-most_cost : goal.returns-clause-most_cost
returns-clause-most_cost g c =
    let hit = c.args.hit.now in
    let image = image_of hit.view.now in
    let upper : length c.spans-walk.result.starts.moves ≡ moves_count image hit.row.before_place =
    ap (λ (w : starts.Walk). length w.moves) c.spans-walk.ensures.starts ∙ c.program-before.ensures.size in
    let lower : length c.spans-walk.result.ends.moves ≡ moves_count image hit.row.after_place =
    ap (λ (w : ends.Walk). length w.moves) c.spans-walk.ensures.ends ∙ c.program-after.ensures.size in
    let first = subst (λ m. c.over_spans.new.steps ≤ c.args.steps.now + (2 * length c.spans-walk.result.ends.moves + 2 * m + 2) * (length hit.file.now + 1) + 0 * length c.args.hits.now) upper
    c.over_spans.ensures.most_cost in
    subst (λ m. c.over_spans.new.steps ≤ c.args.steps.now + (2 * m + 2 * moves_count image hit.row.before_place + 2) * (length hit.file.now + 1) + 0 * length c.args.hits.now) lower first
