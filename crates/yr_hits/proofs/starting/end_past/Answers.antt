use Rattle.yr_hits.proofs.StartLemmas.{past_near, past_far}
use Rattle.yr_hits.proofs.starting.end_past.Goals as goal

pub returns-then-start-hit : goal.returns-then-start-hit
returns-then-start-hit c = past_near c.args.hit.now c.requires.good c.args.ends.now c.args.start c.if-start-hit.true c.requires.ends

pub returns : goal.returns
returns c = past_far c.args.hit.now c.requires.good c.args.ends.now c.args.start c.requires.start c.if-start-hit.false c.requires.ends
