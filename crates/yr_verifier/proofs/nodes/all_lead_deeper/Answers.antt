use Rattle.std.proofs.Common.{refl, sym, ◌∙◌, arith, true≢false}
use Rattle.yr_image.specs.Views.{image_of}
use Rattle.yr_verifier.proofs.NodeLemmas.{in_range, of_range}
use Rattle.yr_verifier.proofs.nodes.all_lead_deeper.Goals as goal

pub returns-then-not-leads_deeper : goal.returns-then-not-leads_deeper
returns-then-not-leads_deeper c = (
  λ e. absurd (true≢false (sym e)),
  λ all.
      let at = of_range c.args.first c.args.count (image_of c.args.view.now).edges c.requires c.loop-k.k c.edge.result c.loop-k-test.true c.edge.ensures in
      absurd (true≢false (sym (c.leads_deeper.ensures.1 (all c.loop-k.k c.edge.result at)) ∙ c.if-not-leads_deeper.true)),
)

pub returns : goal.returns
returns c = (
  λ _ k x at.
      let here = in_range c.args.first c.args.count (image_of c.args.view.now).edges c.requires k x at in
      c.loop-k.invariant k (omega (arith, here.0, c.loop-k-test.false)) x here.1,
  λ _. refl,
)
