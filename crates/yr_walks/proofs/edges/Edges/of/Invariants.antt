use Rattle.yr_moves.specs.Programs.{moves_of}
use Rattle.yr_walks.specs.Arcs.{AreChained}
use Rattle.yr_walks.proofs.edges.Edges.of.Given as goal

abbrev pub invariant-loop-e : goal.invariant-loop-e
invariant-loop-e l = AreChained l.back (moves_of l.rows) l.e l.first.items l.after.items
