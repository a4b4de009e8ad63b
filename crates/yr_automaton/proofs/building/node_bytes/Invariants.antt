use Rattle.std.proofs.Common.{◌≡◌, length}
use Rattle.yr_rows.specs.Nodes.{nodes_of, AreWhole, Each}
use Rattle.yr_automaton.specs.Keys.{IsKeyedNode}
use Rattle.yr_automaton.proofs.building.node_bytes.Given as goal

abbrev pub invariant-loop-n : goal.invariant-loop-n
invariant-loop-n l = record {
  whole : AreWhole 24 l.bytes.items;
  count : length (nodes_of l.bytes.items) ≡ l.n;
  each : Each (IsKeyedNode l.keys l.edges l.outputs) (nodes_of l.bytes.items);
}
