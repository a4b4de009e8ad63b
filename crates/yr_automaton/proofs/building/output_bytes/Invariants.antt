use Rattle.std.proofs.Common.{◌≡◌, ℕ, map, take}
use Rattle.yr_rows.specs.Nodes.{outputs_of, AreWhole}
use Rattle.yr_automaton.proofs.building.output_bytes.Given as goal

abbrev pub invariant-loop-atom : goal.invariant-loop-atom
invariant-loop-atom l = record {
  whole : AreWhole 4 l.bytes.items;
  outputs : outputs_of l.bytes.items ≡ take l.atom-index (map (λ (p : ℕ × ℕ). p.1) l.numbered);
}
