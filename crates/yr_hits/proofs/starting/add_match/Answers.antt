use Rattle.std.proofs.Common.{◌≡◌, true, List, sym, ◌∙◌, subst, rules, arith}
use Rattle.yr_base.specs.Places.{has_left_border}
use Rattle.yr_answer.specs.MatchList.{Match}
use Rattle.yr_hits.specs.Gathering.{Grows}
use Rattle.yr_hits.specs.Spans.{IsSpanFrom}
use Rattle.yr_hits.proofs.StartLemmas.{starts_within, no_end, one_match}
use Rattle.yr_hits.proofs.starting.add_match.Goals as goal

pub returns-in_default-clause-grows : goal.returns-in_default-clause-grows
returns-in_default-clause-grows g c = no_end c.args.hit.now c.requires.good c.args.start c.args.list.now.items c.in_default.ensures

pub overflow_cast-start : goal.overflow_cast-start
overflow_cast-start g c = let within = starts_within c.args.hit.now c.requires.good c.args.start c.requires.start in omega (arith, within.1, c.requires.good.small)

pub overflow_cast-start-2 : goal.overflow_cast-start-2
overflow_cast-start-2 g c = let within = starts_within c.args.hit.now c.requires.good c.args.start c.requires.start in omega (arith, within.1, c.requires.good.small)

pub overflow_sub-end : goal.overflow_sub-end
overflow_sub-end g c = let past = c.in-Some.ensures.0.1 in omega (arith, past)

pub returns-clause-grows : goal.returns-clause-grows
returns-clause-grows g c =
    let hit = c.args.hit.now in
    let list = c.args.list.now.items in
    let there : c.has_left_border.result ≡ true = search rules in
    let border : has_left_border hit.border hit.file.now c.args.start ≡ true = sym c.has_left_border.ensures ∙ there in
    let grown = one_match hit c.requires.good c.args.start c.in-Some.end list c.requires.start border c.in-Some.ensures in
    let G : List Match → Type 0 = λ l. Grows (IsSpanFrom hit c.args.start) hit.greatest list l in
    subst G (sym c.in_ok-push.ensures.items) grown
