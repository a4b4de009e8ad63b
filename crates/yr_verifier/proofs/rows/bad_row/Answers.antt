use Rattle.std.proofs.Common.{⊎_elim, sym, ◌∙◌, arith, true≢false, below_more}
use Rattle.std.proofs.lemmas.Bool.Decides.{leb_tells}
use Rattle.yr_verifier.proofs.RowLemmas.{index_beyond}
use Rattle.yr_verifier.proofs.rows.bad_row.Goals as goal

pub returns-then-not-index_passes : goal.returns-then-not-index_passes
returns-then-not-index_passes c = (λ p. true≢false (sym p ∙ sym c.index_passes.ensures ∙ c.if-not-index_passes.true), c.loop-k.invariant)

pub loop-k-preserved : goal.loop-k-preserved
loop-k-preserved c = below_more _ _ c.loop-k.invariant (sym c.index_passes.ensures ∙ c.if-not-index_passes.false)

pub returns : goal.returns
returns c = λ k. ⊎_elim (λ t. index_beyond _ c.args.view.now.fits c.args.section k (omega (arith, t.1, c.at_least_one-rows.ensures, c.rows.ensures)) (omega (arith, t.1, c.at_least_one-rows.ensures)))
    (λ t. c.loop-k.invariant k (omega (arith, t.1, c.loop-k-test.false))) (leb_tells c.at_least_one-rows.result k)
