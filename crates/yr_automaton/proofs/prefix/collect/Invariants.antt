use Rattle.yr_automaton.specs.Prepared.{Collected}
use Rattle.yr_automaton.proofs.prefix.collect.Given as goal

abbrev pub invariant-loop-i : goal.invariant-loop-i
invariant-loop-i l = Collected l.atoms l.i l.all.items l.numbered.items
