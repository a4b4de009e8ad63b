use Rattle.std.proofs.Common.{◌+◌, ◌*◌, length, ap, arith}
use Rattle.yr_image.specs.Views.{image_of}
use Rattle.yr_hits.proofs.FitLemmas.{side_none}
use Rattle.yr_hits.proofs.SweepStartLemmas.{told_empty, told_longer}
use Rattle.yr_hits.proofs.by_starts.ends_told.Goals as goal

pub returns-then-hit-eq0-clause-told : goal.returns-then-hit-eq0-clause-told
returns-then-hit-eq0-clause-told g c = told_empty c.args.hit.now c.requires.good c.ends_of-ends.result c.ends_of-ends.ensures.ends c.if-hit-eq0.true

pub returns-then-hit-eq0-clause-most_cost : goal.returns-then-hit-eq0-clause-most_cost
returns-then-hit-eq0-clause-most_cost g c =
    let hit = c.args.hit.now in
    let none = ap (λ m. m * (length hit.file.now + 1)) (side_none (image_of hit.view.now) hit.row.after_kind hit.row.after_place c.requires.kind) in
    omega (arith, c.ends_of-ends.ensures.most_cost, none)

pub returns-clause-told : goal.returns-clause-told
returns-clause-told g c = told_longer c.args.hit.now c.requires.good c.ends_of-ends.result c.ends_of-ends.ensures.ends c.if-hit-eq0.false

pub returns-clause-most_cost : goal.returns-clause-most_cost
returns-clause-most_cost g c =
    let hit = c.args.hit.now in
    let none = ap (λ m. m * (length hit.file.now + 1)) (side_none (image_of hit.view.now) hit.row.after_kind hit.row.after_place c.requires.kind) in
    omega (arith, c.ends_of-ends.ensures.most_cost, none)
