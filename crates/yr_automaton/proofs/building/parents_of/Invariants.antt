use Rattle.std.proofs.Common.{◌≡◌, ◌+◌, length}
use Rattle.yr_rows.specs.Nodes.{Each}
use Rattle.yr_automaton.specs.Keys.{IsParent}
use Rattle.yr_automaton.proofs.building.parents_of.Given as goal

abbrev pub invariant-loop-k : goal.invariant-loop-k
invariant-loop-k l = record {
  count : length l.parents.items + 1 ≡ l.k;
  each : Each (IsParent l.keys) l.parents.items;
}
