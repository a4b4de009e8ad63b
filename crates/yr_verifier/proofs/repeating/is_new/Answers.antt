use Rattle.std.proofs.Common.{sym, ◌∙◌, refl, arith, true≢false, below_more}
use Rattle.yr_image.specs.Views.{image_of}
use Rattle.yr_verifier.proofs.NewLemmas.{new_from, new_says}
use Rattle.yr_verifier.proofs.repeating.is_new.Goals as goal

pub returns-then-same : goal.returns-then-same
returns-then-same c = (
  λ e. absurd (true≢false (sym e)),
  λ new. absurd (new_says (image_of c.args.view.now) c.args.k c.requires new c.loop-j.j c.loop-j-test.true
      (sym c.name_at.ensures ∙ c.same.ensures.0 c.if-same.true ∙ c.name_at-name.ensures)),
)

pub loop-j-preserved : goal.loop-j-preserved
loop-j-preserved c =
    below_more _ _ c.loop-j.invariant
    (λ e. true≢false (sym (c.same.ensures.1 (c.name_at.ensures ∙ e ∙ sym c.name_at-name.ensures)) ∙ c.if-same.false))

pub returns : goal.returns
returns c = (
  λ _. new_from (image_of c.args.view.now) c.args.k (λ j lt. c.loop-j.invariant j (omega (arith, lt, c.loop-j-test.false))),
  λ _. refl,
)
