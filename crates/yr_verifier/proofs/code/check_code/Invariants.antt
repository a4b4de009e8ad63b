use Rattle.yr_image.specs.Views.{shown_bytes}
use Rattle.yr_verifier.specs.Firsts.{Reaches}
use Rattle.yr_verifier.proofs.code.check_code.Given as goal

abbrev pub invariant-loop-rule : goal.invariant-loop-rule
invariant-loop-rule l = Reaches (shown_bytes l.view) 8 l.rule
