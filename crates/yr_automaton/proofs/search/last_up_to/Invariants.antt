use Rattle.std.proofs.Common.{◌-◌, ◌<◌, ◌≤◌}
use Rattle.yr_rows.specs.Nodes.{edges_of, edges_end}
use Rattle.yr_automaton.specs.Search.{AreLessBefore, AreGreaterFrom}
use Rattle.yr_automaton.proofs.search.last_up_to.Given as goal

abbrev pub invariant-loop-high : goal.invariant-loop-high
invariant-loop-high l = record {
  from : l.row.first_edge ≤ l.low;
  to : l.low < l.high;
  end : l.high ≤ edges_end l.row;
  before : AreLessBefore (edges_of l.edges) l.row l.byte l.low;
  after : AreGreaterFrom (edges_of l.edges) l.row l.byte l.high;
}

abbrev pub decreases-loop-high : goal.decreases-loop-high
decreases-loop-high l = l.high - l.low
