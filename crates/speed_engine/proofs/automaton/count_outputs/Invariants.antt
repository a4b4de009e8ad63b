use Rattle.std.proofs.Common.{◌<◌}
use Rattle.yr_automaton.specs.Rows.{node_count}
use Rattle.speed_engine.proofs.automaton.count_outputs.Given as goal

abbrev pub invariant-loop-byte : goal.invariant-loop-byte
invariant-loop-byte g l = l.at < node_count l.rows
