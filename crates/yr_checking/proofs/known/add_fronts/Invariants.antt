use Rattle.yr_checking.proofs.KnownLemmas.{MeetsBelow}
use Rattle.yr_checking.proofs.known.add_fronts.Given as goal

abbrev pub invariant-loop-size : goal.invariant-loop-size
invariant-loop-size l = MeetsBelow l.size l.fronts l.name l.initial.met l.met
