use Rattle.yr_image.specs.Views.{shown_bytes}
use Rattle.yr_verifier.specs.Firsts.{Reaches}
use Rattle.yr_verifier.proofs.nodes.check_nodes.Given as goal

abbrev pub invariant-loop-n : goal.invariant-loop-n
invariant-loop-n l = Reaches (shown_bytes l.view) 10 l.n
