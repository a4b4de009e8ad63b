use Rattle.yr_image.specs.Views.{shown_bytes}
use Rattle.yr_verifier.specs.Firsts.{Reaches}
use Rattle.yr_verifier.proofs.programs.check_programs.Given as goal

abbrev pub invariant-loop-k : goal.invariant-loop-k
invariant-loop-k l = Reaches (shown_bytes l.view) 9 l.k
