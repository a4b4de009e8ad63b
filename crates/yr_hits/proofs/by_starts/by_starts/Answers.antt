use Rattle.std.proofs.Common.{◌≡◌, ◌+◌, ◌-◌, ◌*◌, ◌≤◌, [], length, ap, ◌∙◌, subst, arith}
use Rattle.yr_walks.specs.StartWalks as starts
use Rattle.yr_image.specs.Views.{image_of}
use Rattle.yr_machine.specs.Budget.{moves_count}
use Rattle.yr_hits.proofs.HitLemmas.{fields, program_there}
use Rattle.yr_hits.proofs.SweepStartLemmas.{is_start_walk, none_told}
use Rattle.yr_hits.proofs.by_starts.by_starts.Goals as goal

pub program-rows-requires-clause-inside : goal.program-rows-requires-clause-inside
program-rows-requires-clause-inside g c =
    let hit = c.args.hit.now in
    program_there (image_of hit.view.now) hit.row.before_kind hit.row.before_place hit.row.before_length (fields hit c.requires.good).before c.requires.before

pub over_starts-requires-clause-place : goal.over_starts-requires-clause-place
over_starts-requires-clause-place g c = ap (λ (w : starts.Walk). w.place) c.starts-walk.ensures.walk ∙ c.top_of-top.ensures

pub over_starts-requires-clause-walk : goal.over_starts-requires-clause-walk
over_starts-requires-clause-walk g c =
    let hit = c.args.hit.now in
    is_start_walk hit c.requires.good c.program-rows.result c.requires.before c.program-rows.ensures c.top_of-top.result c.starts-walk.result c.starts-walk.ensures.walk

pub over_starts-requires-clause-midway : goal.over_starts-requires-clause-midway
over_starts-requires-clause-midway g c =
    let hit = c.args.hit.now in
    let place : c.starts-walk.result.place ≡ length hit.file.now + 1 - hit.row.atom_length = ap (λ (w : starts.Walk). w.place) c.starts-walk.ensures.walk ∙ c.top_of-top.ensures in
    record {
      told = [];
      midway = c.starts-walk.ensures.midway;
      were = none_told hit c.args.hits.now c.starts-walk.result.place c.requires.hits (omega (arith, place, c.requires.good.begins, c.requires.good.inside));
    }

pub returns-clause-most_cost : goal.returns-clause-most_cost
returns-clause-most_cost g c =
    let hit = c.args.hit.now in
    let size : length c.starts-walk.result.moves ≡ moves_count (image_of hit.view.now) hit.row.before_place =
    ap (λ (w : starts.Walk). length w.moves) c.starts-walk.ensures.walk ∙ c.program-rows.ensures.size in
    subst (λ m. c.over_starts.new.steps ≤ c.args.steps.now + (2 * m + 2) * (length hit.file.now + 1) + 1 * length c.args.hits.now) size c.over_starts.ensures.most_cost
