use Rattle.yr_hits.specs.Gathering.{Grows}
use Rattle.yr_hits.specs.Spans.{IsSpanFrom}
use Rattle.yr_hits.proofs.GrowLemmas.{on_ok}
use Rattle.yr_hits.proofs.StartLemmas.{no_starts, only_one}
use Rattle.yr_hits.specs.Sweeps.{SpansOf}
use Rattle.yr_hits.proofs.SweepLemmas.{spans_as}
use Rattle.yr_hits.proofs.by_ends.add_hit.Goals as goal

pub returns-in_default-clause-grows : goal.returns-in_default-clause-grows
returns-in_default-clause-grows g c =
    let list = c.args.list.now.items in
    spans_as c.args.hit.now c.requires.good list list (no_starts c.args.hit.now c.requires.good list c.in_default.ensures.start)

pub returns-clause-grows : goal.returns-clause-grows
returns-clause-grows g c =
    let hit = c.args.hit.now in
    let a = c.args.list.now.items in
    let b = c.add_match.new.list.items in
    let into : Grows (IsSpanFrom hit c.in-Some.start) hit.greatest a b → Grows (SpansOf hit hit.at) hit.greatest a b =
    λ grown. spans_as hit c.requires.good a b (only_one hit c.requires.good c.in-Some.start a b c.in-Some.ensures.start.1 grown) in
    on_ok c.add_match.result into c.add_match.ensures.grows
