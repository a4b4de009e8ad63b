use Rattle.yr_image.specs.Views.{shown_bytes}
use Rattle.yr_verifier.specs.Firsts.{Reaches}
use Rattle.yr_verifier.proofs.naming.check_names.Given as goal

abbrev pub invariant-loop-section : goal.invariant-loop-section
invariant-loop-section l = Reaches (shown_bytes l.view) 7 l.section
