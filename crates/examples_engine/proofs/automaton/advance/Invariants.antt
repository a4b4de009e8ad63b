use Rattle.std.proofs.Common.{◌<◌}
use Rattle.yr_automaton.specs.Rows.{node_count}
use Rattle.examples_engine.proofs.automaton.advance.Given as goal

abbrev pub invariant-loop-target : goal.invariant-loop-target
invariant-loop-target l = l.at < node_count l.rows

abbrev pub decreases-loop-target : goal.decreases-loop-target
decreases-loop-target l = l.at
