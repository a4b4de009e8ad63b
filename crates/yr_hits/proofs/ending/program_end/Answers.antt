use Rattle.std.proofs.Common.{length}
use Rattle.yr_image.specs.Views.{image_of}
use Rattle.yr_moves.specs.Programs.{moves_of}
use Rattle.yr_machine.specs.Budget.{moves_count}
use Rattle.yr_hits.proofs.HitLemmas.{fields, program_there, program_best, end_cost}
use Rattle.yr_hits.proofs.ending.program_end.Goals as goal

pub program-requires-clause-inside : goal.program-requires-clause-inside
program-requires-clause-inside g c =
    let hit = c.args.hit.now in
    program_there (image_of hit.view.now) hit.row.after_kind hit.row.after_place hit.row.after_length (fields hit c.requires.good).after c.requires.kind

pub returns-clause-end : goal.returns-clause-end
returns-clause-end g c =
    program_best c.args.hit.now c.requires.good c.program.result c.args.least c.best_end.result c.requires.kind c.program.ensures c.best_end.ensures.end c.best_end.ensures.none

pub returns-clause-most_cost : goal.returns-clause-most_cost
returns-clause-most_cost g c =
    let hit = c.args.hit.now in
    end_cost (moves_count (image_of hit.view.now) hit.row.after_place) (length (moves_of c.program.result)) (length hit.file.now) hit.at c.args.steps.now c.best_end.new.steps
    c.best_end.ensures.most_cost c.program.ensures.size
