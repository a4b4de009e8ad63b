use Rattle.std.proofs.Common.{◌∙◌, Ok, refl, ap}
use Rattle.std.proofs.lemmas.Result.{err_from_is_err_and}
use Rattle.yr_parser.specs.Many.{memory}
use Rattle.yr_parser.proofs.ManyLemmas.{leads-begin, leads-more, leads-stop, leads-fails, leads-out}
use Rattle.yr_parser.proofs.many.many.Goals as goal

pub loop-turn-init : goal.loop-turn-init
loop-turn-init g c = leads-begin _ _ _ _ c.new-found.ensures.items

pub returns-in_err-item : goal.returns-in_err-item
returns-in_err-item g c =
    let p = err_from_is_err_and c.from_residual.result c.from_residual.ensures.1 in
    rw (p.1, p.2, ← c.left-turn-end.ensures)
    (leads-fails _ _ _ _ _ _ _ _ _ _ _ c.loop-turn.invariant c.loop-turn-test.true refl c.next.ensures c.in_err-item.was)

pub returns-in_default : goal.returns-in_default
returns-in_default g c =
    rw (← c.left-turn-end.ensures)
    (leads-stop _ _ _ _ _ _ _ _ _ c.loop-turn.invariant c.loop-turn-test.true refl c.next.ensures (c.in_ok-item.was ∙ ap Ok c.in_default.is))

pub returns-in_err-push : goal.returns-in_err-push
returns-in_err-push g c =
    let p = err_from_is_err_and c.from_residual-in_err-push.result c.from_residual-in_err-push.ensures.1 in rw (p.1, p.2) memory

pub loop-turn-preserved : goal.loop-turn-preserved
loop-turn-preserved g c =
    leads-more _ _ _ _ _ _ _ _ _ _ _ c.loop-turn.invariant c.loop-turn-test.true refl c.next.ensures (c.in_ok-item.was ∙ ap Ok c.in-Some.is) c.in_ok-push.ensures.items

pub returns : goal.returns
returns g c = rw (← c.left-turn-end.ensures) (leads-out _ _ _ _ _ _ c.loop-turn.invariant c.loop-turn-test.false)
