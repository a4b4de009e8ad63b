use Rattle.std.proofs.Common.{sym, subst}
use Rattle.yr_machine.specs.Names.{NamePasses}
use Rattle.yr_image.specs.Views.{image_of}
use Rattle.yr_verifier.specs.Firsts.{Finds}
use Rattle.yr_verifier.proofs.NameLemmas.{finds_same, named_passes, passes_named}
use Rattle.yr_verifier.proofs.naming.bad_named.Goals as goal

pub returns-then-section-eq2 : goal.returns-then-section-eq2
returns-then-section-eq2 c = subst (λ s. Finds (NamePasses (image_of c.args.view.now) s) c.bad_external.result) (sym c.if-section-eq2.true) c.bad_external.ensures

pub returns-else-section-eq2 : goal.returns-else-section-eq2
returns-else-section-eq2 c =
    let image = image_of c.args.view.now in
    let s = c.args.section in
    finds_same _ _ (λ k h. named_passes image s k h (λ e. absurd (c.if-section-eq2.false e))) (passes_named image s) c.bad_name.result c.bad_name.ensures
