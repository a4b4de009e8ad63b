use Rattle.std.proofs.Common.{sym, ◌∙◌}
use Rattle.yr_verifier.proofs.WalkLemmas.{close_none, close_other, close_fails}
use Rattle.yr_verifier.proofs.walk.Walk.close.Goals as goal

pub returns-then-not-ends_at-clause-verdict : goal.returns-then-not-ends_at-clause-verdict
returns-then-not-ends_at-clause-verdict c =
    close_other _ _ _ c.in-Some.block _ (sym c.top.ensures ∙ c.in-Some.is) (sym c.ends_at.ensures ∙ c.if-not-ends_at.true) c.loop-block.invariant.rest

pub returns-then-not-is_answer-clause-verdict : goal.returns-then-not-is_answer-clause-verdict
returns-then-not-is_answer-clause-verdict c =
    close_fails _ _ _ c.in-Some.block _ (sym c.top.ensures ∙ c.in-Some.is) (sym c.ends_at.ensures ∙ c.if-not-ends_at.false)
    (sym c.is_answer.ensures ∙ c.if-not-is_answer.true) c.loop-block.invariant.rest

pub returns-clause-verdict : goal.returns-clause-verdict
returns-clause-verdict c = close_none _ _ _ _ (sym c.top.ensures ∙ c.in_default.is) c.loop-block.invariant.rest
