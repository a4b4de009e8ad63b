use Rattle.std.proofs.Common.{◌<◌}
use Rattle.yr_automaton.specs.Rows.{node_count}
use Rattle.examples_engine.proofs.automaton.told.Given as goal

abbrev pub invariant-loop-byte : goal.invariant-loop-byte
invariant-loop-byte g l = l.at < node_count l.rows
