use Rattle.std.proofs.Common.{◌+◌, ◌*◌, length, arith}
use Rattle.yr_image.specs.Views.{image_of}
use Rattle.yr_machine.specs.Budget.{moves_count, side_moves}
use Rattle.yr_hits.proofs.FitLemmas.{side_is, walk_fits}
use Rattle.yr_hits.proofs.sweeping.by_places.Goals as goal

pub returns-then-after-eq2-clause-most_cost : goal.returns-then-after-eq2-clause-most_cost
returns-then-after-eq2-clause-most_cost g c =
    let row = c.args.hit.now.row in
    let image = image_of c.args.hit.now.view.now in
    let upper = side_is image row.before_kind row.before_place c.requires.before in
    let lower = side_is image row.after_kind row.after_place c.if-after-eq2.true in
    walk_fits (length c.args.hit.now.file.now + 1) (1 + side_moves image row.before_kind row.before_place + 2 * side_moves image row.after_kind row.after_place)
    (2 * moves_count image row.after_place + 2 * moves_count image row.before_place + 2) 0 (length c.args.hits.now) c.args.steps.now c.by_spans.new.steps c.by_spans.ensures.most_cost
    (omega (arith, upper, lower)) (omega arith) c.requires.many

pub returns-clause-most_cost : goal.returns-clause-most_cost
returns-clause-most_cost g c =
    let row = c.args.hit.now.row in
    let image = image_of c.args.hit.now.view.now in
    let upper = side_is image row.before_kind row.before_place c.requires.before in
    walk_fits (length c.args.hit.now.file.now + 1) (1 + side_moves image row.before_kind row.before_place + 2 * side_moves image row.after_kind row.after_place)
    (2 * moves_count image row.before_place + 2) 1 (length c.args.hits.now) c.args.steps.now c.by_starts.new.steps c.by_starts.ensures.most_cost
    (omega (arith, upper)) (omega arith) c.requires.many
