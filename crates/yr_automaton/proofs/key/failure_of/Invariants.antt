use Rattle.std.proofs.Common.{◌<◌}
use Rattle.yr_automaton.proofs.BuildLemmas.{IsSuffixLeft}
use Rattle.yr_automaton.proofs.key.failure_of.Given as goal

abbrev pub invariant-loop-place : goal.invariant-loop-place
invariant-loop-place l = record {
  less : l.rest < l.key;
  left : IsSuffixLeft l.keys l.key l.rest;
}

abbrev pub decreases-loop-place : goal.decreases-loop-place
decreases-loop-place l = l.rest
