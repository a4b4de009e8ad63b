use Rattle.std.proofs.Common.{arith}
use Rattle.yr_hits.proofs.HitLemmas.{leads_up, no_ends}
use Rattle.yr_hits.proofs.ending.plain_ends.Goals as goal

pub returns-in_default-clause-ends : goal.returns-in_default-clause-ends
returns-in_default-clause-ends g c = no_ends c.args.hit.now c.requires.good (λ j h. c.in_default.ensures.end j h.0)

pub has_right_border-requires : goal.has_right_border-requires
has_right_border-requires g c = (leads_up c.args.hit.now c.requires.good c.in-Some.end c.in-Some.ensures.end.0).1

pub overflow_cast-near : goal.overflow_cast-near
overflow_cast-near g c =
    let up = leads_up c.args.hit.now c.requires.good c.in-Some.end c.in-Some.ensures.end.0 in
    omega (arith, up.1, c.requires.good.small)
