use Rattle.yr_walks.specs.EndWalks.{IsMidway}
use Rattle.speed_engine.proofs.walks.timing.walk_down.Given as goal

abbrev pub invariant-loop-walk : goal.invariant-loop-walk
invariant-loop-walk g l = IsMidway l.walk l.marks

abbrev pub decreases-loop-walk : goal.decreases-loop-walk
decreases-loop-walk g l = l.walk.place
