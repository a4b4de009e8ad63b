use Rattle.std.proofs.Common.{arith, sym, ◌∙◌, true≢false}
use Rattle.yr_image.specs.declared.fault.ImageFault.TheVariants.{ProgramBad}
use Rattle.yr_image.specs.Views.{image_of, shown_bytes}
use Rattle.yr_verifier.proofs.ReachLemmas as reach
use Rattle.yr_verifier.proofs.ProgramLemmas.{program_beyond}
use Rattle.yr_verifier.proofs.programs.check_programs.Goals as goal

pub loop-k-init : goal.loop-k-init
loop-k-init c = c.requires

pub returns-then-not-program_passes : goal.returns-then-not-program_passes
returns-then-not-program_passes c =
    reach.one_fault (shown_bytes c.args.view.now) 9 (λ k. ProgramBad k) reach.programs c.loop-k.k c.loop-k.invariant
    (λ p. true≢false (sym (c.program_passes.ensures.1 p) ∙ c.if-not-program_passes.true))

pub loop-k-preserved : goal.loop-k-preserved
loop-k-preserved c =
    reach.one_next (shown_bytes c.args.view.now) 9 (λ k. ProgramBad k) reach.programs c.loop-k.k c.loop-k.invariant
    (c.program_passes.ensures.0 c.if-not-program_passes.false)

pub returns : goal.returns
returns c =
    reach.one_check (shown_bytes c.args.view.now) 9 (λ k. ProgramBad k) reach.programs c.loop-k.k c.loop-k.invariant
    (λ k le. program_beyond (image_of c.args.view.now) k (omega (arith, le, c.at_least_one-k-end.ensures, c.loop-k-test.false, c.count_programs.ensures)) (omega (arith, le, c.at_least_one-k-end.ensures, c.loop-k-test.false)))
