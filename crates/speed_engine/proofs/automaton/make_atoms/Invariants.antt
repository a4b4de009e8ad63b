use Rattle.std.proofs.Common.{◌≡◌, length}
use Rattle.speed_engine.proofs.automaton.make_atoms.Given as goal

abbrev pub invariant-loop-i : goal.invariant-loop-i
invariant-loop-i l = length l.atoms.items ≡ l.i
