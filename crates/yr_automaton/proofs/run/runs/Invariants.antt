use Rattle.yr_automaton.proofs.BuildLemmas.{Running}
use Rattle.yr_automaton.proofs.run.runs.Given as goal

abbrev pub invariant-loop-key : goal.invariant-loop-key
invariant-loop-key l = Running l.keys l.xs l.key-index l.at l.starts.items
