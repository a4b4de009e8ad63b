use Rattle.std.proofs.Common.{◌≡◌}
use Rattle.yr_moves.specs.Programs.{moves_of, sets_of}
use Rattle.yr_walks.proofs.FollowLemmas.{Following}
use Rattle.yr_walks.proofs.spread.join.Given as goal

abbrev pub invariant-loop-link : goal.invariant-loop-link
invariant-loop-link l =
    Following l.edges.back (moves_of l.rows) (sets_of l.rows) l.file l.i l.byte l.x l.end l.edges.after.items l.link l.initial.list.items l.list.items
    × (l.list.room ≡ l.initial.list.room)

abbrev pub decreases-loop-link : goal.decreases-loop-link
decreases-loop-link l = l.link
