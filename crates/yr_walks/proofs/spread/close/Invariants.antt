use Rattle.std.proofs.Common.{◌≡◌, ◌+◌, ◌-◌, length}
use Rattle.yr_moves.specs.Programs.{moves_of, sets_of}
use Rattle.yr_walks.proofs.SpreadLemmas.{Closing}
use Rattle.yr_walks.proofs.spread.close.Given as goal

abbrev pub invariant-loop-k : goal.invariant-loop-k
invariant-loop-k g l =
    Closing l.edges.back (moves_of l.rows) (sets_of l.rows) l.file l.i l.end l.from l.k l.initial.list.items l.list.items
    × (l.list.room ≡ l.initial.list.room) × (l.steps + l.from ≡ l.initial.steps + l.k)

abbrev pub decreases-loop-k : goal.decreases-loop-k
decreases-loop-k g l = length (moves_of l.rows) + 1 - l.k
