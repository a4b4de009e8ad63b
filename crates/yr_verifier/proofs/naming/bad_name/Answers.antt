use Rattle.std.proofs.Common.{⊎_elim, sym, ◌∙◌, arith, true≢false, below_more}
use Rattle.std.proofs.lemmas.Bool.Decides.{leb_tells}
use Rattle.yr_verifier.proofs.NameLemmas.{named_beyond}
use Rattle.yr_verifier.proofs.naming.bad_name.Goals as goal

pub returns-then-not-is_named : goal.returns-then-not-is_named
returns-then-not-is_named c = (λ p. true≢false (sym p ∙ sym c.is_named.ensures ∙ c.if-not-is_named.true), c.loop-k.invariant)

pub loop-k-preserved : goal.loop-k-preserved
loop-k-preserved c = below_more _ _ c.loop-k.invariant (sym c.is_named.ensures ∙ c.if-not-is_named.false)

pub returns : goal.returns
returns c = λ k. ⊎_elim (λ t. named_beyond _ c.args.view.now.fits c.args.section k (omega (arith, t.1, c.rows-k-end.ensures)))
    (λ t. c.loop-k.invariant k (omega (arith, t.1, c.loop-k-test.false))) (leb_tells c.rows-k-end.result k)
