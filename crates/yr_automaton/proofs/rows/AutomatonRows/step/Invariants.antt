use Rattle.std.proofs.Common.{◌≡◌, ◌+◌, ◌-◌, ◌<◌, ◌≤◌, Some}
use Rattle.std.specs.Prelude.{slice_get}
use Rattle.yr_rows.specs.declared.nodes.NodeRow.{NodeRow}
use Rattle.yr_rows.specs.Nodes.{nodes_of}
use Rattle.yr_automaton.specs.Rows.{node_count, edge, link}
use Rattle.yr_automaton.proofs.RowLemmas.{Asked}
use Rattle.yr_automaton.proofs.rows.AutomatonRows.step.Given as goal

abbrev pub invariant-loop-target : goal.invariant-loop-target
invariant-loop-target g l = record {
  start : l.initial.steps ≤ l.steps;
  inside : l.at < node_count l.self;
  asked : Asked (edge l.self) (link l.self) l.byte (l.steps - l.initial.steps) l.node l.at;
  few : (row : NodeRow) → slice_get (nodes_of l.self.nodes.now) l.at ≡ Some row → (l.steps - l.initial.steps) + row.depth ≤ 4;
}

abbrev pub decreases-loop-target : goal.decreases-loop-target
decreases-loop-target g l = l.at
