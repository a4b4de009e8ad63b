use Rattle.std.proofs.Common.{◌≤◌}
use Rattle.examples_engine.proofs.images.atom_of.Given as goal

abbrev pub invariant-loop-b : goal.invariant-loop-b
invariant-loop-b l = l.len ≤ 4
