use Rattle.std.proofs.Common.{◌≡◌, ◌+◌, ◌*◌, ◌≤◌, length, ap, ◌∙◌, subst}
use Rattle.yr_walks.specs.EndWalks as ends
use Rattle.yr_image.specs.Views.{image_of}
use Rattle.yr_machine.specs.Budget.{moves_count}
use Rattle.yr_hits.proofs.HitLemmas.{fields, program_there}
use Rattle.yr_hits.proofs.EndLemmas.{is_end_walk}
use Rattle.yr_hits.proofs.by_ends.by_ends.Goals as goal

pub program-rows-requires-clause-inside : goal.program-rows-requires-clause-inside
program-rows-requires-clause-inside g c =
    let hit = c.args.hit.now in
    program_there (image_of hit.view.now) hit.row.after_kind hit.row.after_place hit.row.after_length (fields hit c.requires.good).after c.requires.after

pub over_ends-requires-clause-walk : goal.over_ends-requires-clause-walk
over_ends-requires-clause-walk g c =
    let hit = c.args.hit.now in
    is_end_walk hit c.requires.good c.program-rows.result c.requires.after c.program-rows.ensures (length hit.file.now + 1) c.ends-walk.result c.ends-walk.ensures.walk

pub over_ends-requires-clause-place : goal.over_ends-requires-clause-place
over_ends-requires-clause-place g c = ap (λ (w : ends.Walk). w.place) c.ends-walk.ensures.walk

pub returns-clause-most_cost : goal.returns-clause-most_cost
returns-clause-most_cost g c =
    let hit = c.args.hit.now in
    let size : length c.ends-walk.result.moves ≡ moves_count (image_of hit.view.now) hit.row.after_place =
    ap (λ (w : ends.Walk). length w.moves) c.ends-walk.ensures.walk ∙ c.program-rows.ensures.size in
    subst (λ m. c.over_ends.new.steps ≤ c.args.steps.now + 2 * m * (length hit.file.now + 1) + 2 * length c.args.hits.now) size c.over_ends.ensures.most_cost
