use Rattle.yr_hits.proofs.StartLemmas.{no_near}
use Rattle.yr_hits.proofs.starting.add_from_program.Goals as goal

pub returns-in_default-clause-grows : goal.returns-in_default-clause-grows
returns-in_default-clause-grows g c = no_near c.args.hit.now c.requires.good c.ends_of-ends.result c.args.list.now.items c.in_default.is c.ends_of-ends.ensures.ends
