use Rattle.std.proofs.Common.{◌≢◌, OnOk, [], sym, subst}
use Rattle.yr_hits.specs.declared.hit.Hit.{Hit}
use Rattle.yr_hits.specs.Gathering.{Grows}
use Rattle.yr_hits.specs.Spans.{IsGoodHit, AreEnds}
use Rattle.yr_hits.proofs.GrowLemmas.{on_ok}
use Rattle.yr_hits.specs.Sweeps.{SpansOf}
use Rattle.yr_hits.specs.Walks.{SpansIf}
use Rattle.yr_hits.proofs.SweepLemmas.{good_after, if_there, if_not}
use Rattle.yr_hits.proofs.by_ends.add_if.Goals as goal

pub add_hit-requires-clause-good : goal.add_hit-requires-clause-good
add_hit-requires-clause-good g c =
    subst IsGoodHit (sym c.moved.ensures) (good_after c.args.hit.now c.requires.good c.args.at (c.requires.inside c.if-there.true))

pub add_hit-requires-clause-kind : goal.add_hit-requires-clause-kind
add_hit-requires-clause-kind g c = subst (λ (h : Hit). h.row.before_kind ≢ 2) (sym c.moved.ensures) c.requires.kind

pub add_hit-requires-clause-ends : goal.add_hit-requires-clause-ends
add_hit-requires-clause-ends g c = subst (λ (h : Hit). AreEnds h c.args.ends.now) (sym c.moved.ensures) (c.requires.ends c.if-there.true)

pub returns-then-there-clause-grows : goal.returns-then-there-clause-grows
returns-then-there-clause-grows g c =
    let hit = c.args.hit.now in
    let a = c.args.list.now.items in
    let b = c.add_hit.new.list.items in
    let grown = subst (λ (h : Hit). OnOk c.add_hit.result (Grows (SpansOf h h.at) h.greatest a b)) c.moved.ensures c.add_hit.ensures.grows in
    let into : Grows (SpansOf hit c.args.at) hit.greatest a b → Grows (SpansIf c.args.there hit c.args.at) hit.greatest a b =
    λ g. if_there hit [] c.args.there c.args.at a b c.if-there.true g in
    on_ok c.add_hit.result into grown

pub returns-clause-grows : goal.returns-clause-grows
returns-clause-grows g c = if_not c.args.hit.now [] c.args.there c.args.at c.args.list.now.items c.if-there.false
