use Rattle.std.proofs.Common.{◌≡◌, ◌-◌, map, length}
use Rattle.yr_pattern.specs.Tree.{tree_of}
use Rattle.yr_atoms.proofs.PlaceLemmas.{Placed}
use Rattle.yr_atoms.proofs.pattern.rarest_run_in.Given as goal

abbrev pub invariant-loop-done : goal.invariant-loop-done
invariant-loop-done l = record {
  placed : Placed (map tree_of l.members) (length l.members - l.done) l.run l.at l.n;
  room : length l.next ≡ 4;
}
