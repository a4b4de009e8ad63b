use Rattle.yr_hits.proofs.HitLemmas.{near_best, far_best, far_none}
use Rattle.yr_hits.proofs.ending.program_ends.Goals as goal

pub returns-then-hit-ne0-clause-ends : goal.returns-then-hit-ne0-clause-ends
returns-then-hit-ne0-clause-ends g c = record {
  near = near_best c.args.hit.now c.requires.good c.program_end-near.result c.program_end-near.ensures.end;
  far = λ empty. absurd (c.if-hit-ne0.true empty);
}

pub returns-in_default-clause-ends : goal.returns-in_default-clause-ends
returns-in_default-clause-ends g c =
    let near = near_best c.args.hit.now c.requires.good c.program_end-near.result c.program_end-near.ensures.end in
    far_none c.args.hit.now c.requires.good c.program_end-near.result c.in_default.is near

pub returns-clause-ends : goal.returns-clause-ends
returns-clause-ends g c = record {
  near = near_best c.args.hit.now c.requires.good c.program_end-near.result c.program_end-near.ensures.end;
  far = λ empty. far_best c.args.hit.now c.requires.good c.program_end-far.result c.program_end-far.ensures.end;
}
