use Rattle.yr_walks.specs.Spans.{IsReadyFor}
use Rattle.examples_engine.proofs.spans.answers.Given as goal

abbrev pub ghosts-next_of : goal.ghosts-next_of
ghosts-next_of g a = record { name = a.blank.name; parts = a.blank.parts }

abbrev pub invariant-loop-walk : goal.invariant-loop-walk
invariant-loop-walk g l = IsReadyFor l.walk l.marks

abbrev pub decreases-loop-walk : goal.decreases-loop-walk
decreases-loop-walk g l = l.walk.starts.place
