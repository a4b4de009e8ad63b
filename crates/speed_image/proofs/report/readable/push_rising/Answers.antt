use Rattle.std.proofs.Common.{◌+◌, List, sym, subst, arith}
use Rattle.yr_answer.specs.MatchList.{Match}
use Rattle.yr_answer.specs.Found.{IsReadable}
use Rattle.yr_report.specs.Made.{AreBelow}
use Rattle.yr_report.proofs.CallerLemmas.{readable-more}
use Rattle.speed_image.proofs.report.readable.push_rising.Goals as goal

pub returns-clause-readable : goal.returns-clause-readable
returns-clause-readable c =
    let both = readable-more c.args.least c.args.list.now.items c.args.found c.if-offset-least.false (omega (arith, c.len.ensures, c.if-len.false)) c.requires.readable c.requires.below in
    subst (λ (l : List Match). IsReadable l) (sym c.in_ok-push.ensures.items) both.0

pub returns-clause-below : goal.returns-clause-below
returns-clause-below c =
    let both = readable-more c.args.least c.args.list.now.items c.args.found c.if-offset-least.false (omega (arith, c.len.ensures, c.if-len.false)) c.requires.readable c.requires.below in
    subst (λ (l : List Match). AreBelow (c.args.found.0 + 1) l) (sym c.in_ok-push.ensures.items) both.1
