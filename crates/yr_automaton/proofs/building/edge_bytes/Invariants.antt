use Rattle.std.proofs.Common.{◌≡◌, ◌+◌, length}
use Rattle.yr_rows.specs.Nodes.{edges_of, AreWhole, Each}
use Rattle.yr_automaton.specs.Keys.{IsEdgeTo}
use Rattle.yr_automaton.proofs.building.edge_bytes.Given as goal

abbrev pub invariant-loop-target : goal.invariant-loop-target
invariant-loop-target l = record {
  whole : AreWhole 8 l.bytes.items;
  count : length (edges_of l.bytes.items) + 1 ≡ l.target;
  each : Each (IsEdgeTo l.keys) (edges_of l.bytes.items);
}
