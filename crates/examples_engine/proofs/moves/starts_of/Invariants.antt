use Rattle.yr_moves.specs.Walks.{IsMidway}
use Rattle.examples_engine.proofs.moves.starts_of.Given as goal

abbrev pub ghosts-next_of : goal.ghosts-next_of
ghosts-next_of g a = record { name = a.blank.name; parts = a.blank.parts }

abbrev pub invariant-loop : goal.invariant-loop
invariant-loop g l = IsMidway l.walk l.marks
