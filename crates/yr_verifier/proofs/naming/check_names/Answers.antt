use Rattle.std.proofs.Common.{arith}
use Rattle.yr_image.specs.declared.fault.ImageFault.TheVariants.{Name}
use Rattle.yr_image.specs.Views.{shown_bytes}
use Rattle.yr_verifier.proofs.ReachLemmas as reach
use Rattle.yr_verifier.proofs.naming.check_names.Goals as goal

pub loop-section-init : goal.loop-section-init
loop-section-init c = c.requires

pub returns-in-Some : goal.returns-in-Some
returns-in-Some c = reach.two_fault (shown_bytes c.args.view.now) 7 (λ n k. Name n k) reach.names c.loop-section.section c.in-Some.k c.loop-section.invariant c.in-Some.ensures

pub loop-section-preserved : goal.loop-section-preserved
loop-section-preserved c = reach.two_next (shown_bytes c.args.view.now) 7 (λ n k. Name n k) reach.names c.loop-section.section c.loop-section.invariant c.in-None.ensures

pub returns : goal.returns
returns c =
    reach.two_check (shown_bytes c.args.view.now) 7 (λ n k. Name n k) reach.names c.loop-section.section c.loop-section.invariant
    (λ m k le. record {
      rules = λ e. absurd (omega (arith, le, e, c.loop-section-test.false));
      notes = λ e. absurd (omega (arith, le, e, c.loop-section-test.false));
      externals = λ e. absurd (omega (arith, le, e, c.loop-section-test.false));
      strings = λ e. absurd (omega (arith, le, e, c.loop-section-test.false));
    })
