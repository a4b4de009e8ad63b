use Rattle.yr_automaton.proofs.BuildLemmas.{Once}
use Rattle.yr_automaton.proofs.prefix.distinct.Given as goal

abbrev pub invariant-loop-key : goal.invariant-loop-key
invariant-loop-key l = Once l.sorted l.key-index l.keys.items l.last
