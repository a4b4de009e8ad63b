use Rattle.std.proofs.Common.{arith}
use Rattle.yr_image.specs.declared.fault.ImageFault.TheVariants.{Index}
use Rattle.yr_image.specs.Views.{image_of, shown_bytes}
use Rattle.yr_image.specs.Reading.{zeros_in}
use Rattle.yr_verifier.proofs.ReachLemmas as reach
use Rattle.yr_verifier.proofs.RowLemmas.{index_other}
use Rattle.yr_verifier.proofs.rows.check_rows.Goals as goal

pub loop-section-init : goal.loop-section-init
loop-section-init c = c.requires

pub returns-in-Some : goal.returns-in-Some
returns-in-Some c = reach.two_fault (shown_bytes c.args.view.now) 6 (λ n k. Index n k) reach.rows c.loop-section.section c.in-Some.k c.loop-section.invariant c.in-Some.ensures

pub loop-section-preserved : goal.loop-section-preserved
loop-section-preserved c = reach.two_next (shown_bytes c.args.view.now) 6 (λ n k. Index n k) reach.rows c.loop-section.section c.loop-section.invariant c.in-None.ensures

pub returns : goal.returns
returns c =
    reach.two_check (shown_bytes c.args.view.now) 6 (λ n k. Index n k) reach.rows c.loop-section.section c.loop-section.invariant
    (λ m k le. index_other (image_of c.args.view.now) (zeros_in (shown_bytes c.args.view.now)) m k (omega (arith, le, c.loop-section-test.false)))
