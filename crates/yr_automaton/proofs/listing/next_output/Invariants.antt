use Rattle.std.proofs.Common.{◌≡◌}
use Rattle.yr_automaton.specs.Outputs.{left_at, IsPlaceIn}
use Rattle.yr_automaton.proofs.listing.next_output.Given as goal

abbrev pub invariant-loop-place : goal.invariant-loop-place
invariant-loop-place l = record {
  place : IsPlaceIn l.nodes l.outputs l.place;
  left : left_at l.nodes l.outputs l.fn.place ≡ left_at l.nodes l.outputs l.place;
}

abbrev pub decreases-loop-place : goal.decreases-loop-place
decreases-loop-place l = l.place.node
