use Rattle.std.proofs.Common.{arith}
use Rattle.yr_image.specs.declared.fault.ImageFault.TheVariants.{Code}
use Rattle.yr_image.specs.Views.{image_of, shown_bytes}
use Rattle.yr_verifier.proofs.ReachLemmas as reach
use Rattle.yr_verifier.proofs.CodeLemmas.{code_beyond}
use Rattle.yr_verifier.proofs.code.check_code.Goals as goal

pub loop-rule-init : goal.loop-rule-init
loop-rule-init c = c.requires

pub returns-in-Some : goal.returns-in-Some
returns-in-Some c = reach.two_fault (shown_bytes c.args.view.now) 8 (λ n k. Code n k) reach.codes c.loop-rule.rule c.in-Some.place c.loop-rule.invariant c.in-Some.ensures

pub loop-rule-preserved : goal.loop-rule-preserved
loop-rule-preserved c = reach.two_next (shown_bytes c.args.view.now) 8 (λ n k. Code n k) reach.codes c.loop-rule.rule c.loop-rule.invariant c.in-None.ensures

pub returns : goal.returns
returns c =
    reach.two_check (shown_bytes c.args.view.now) 8 (λ n k. Code n k) reach.codes c.loop-rule.rule c.loop-rule.invariant
    (λ m k le. code_beyond (image_of c.args.view.now) m k (omega (arith, le, c.count_rules-rule-end.ensures, c.loop-rule-test.false)))
