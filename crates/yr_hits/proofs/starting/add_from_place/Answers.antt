use Rattle.yr_hits.proofs.GrowLemmas.{on_ok}
use Rattle.yr_hits.proofs.StartLemmas.{no_starts, only_one}
use Rattle.yr_hits.proofs.starting.add_from_place.Goals as goal

pub returns-in_default-clause-grows : goal.returns-in_default-clause-grows
returns-in_default-clause-grows g c = no_starts c.args.hit.now c.requires.good c.args.list.now.items c.in_default.ensures.start

pub returns-clause-grows : goal.returns-clause-grows
returns-clause-grows g c =
    on_ok c.add_match.result (only_one c.args.hit.now c.requires.good c.in-Some.start c.args.list.now.items c.add_match.new.list.items c.in-Some.ensures.start.1) c.add_match.ensures.grows
