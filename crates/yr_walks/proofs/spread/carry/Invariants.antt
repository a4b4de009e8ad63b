use Rattle.std.proofs.Common.{◌≡◌, ◌+◌, length}
use Rattle.yr_moves.specs.Programs.{moves_of, sets_of}
use Rattle.yr_walks.specs.Carried.{AreBelow}
use Rattle.yr_walks.specs.Spreads.{Carries, bound}
use Rattle.yr_walks.proofs.spread.carry.Given as goal

abbrev pub invariant-loop-k : goal.invariant-loop-k
invariant-loop-k g l =
    Carries l.edges.back (moves_of l.rows) (sets_of l.rows) l.file l.i l.byte l.old.items l.from l.k l.initial.list.items l.list.items
    × AreBelow (bound l.edges.back (length (moves_of l.rows))) l.list.items × (l.list.room ≡ l.initial.list.room)
    × (l.steps + length l.initial.list.items ≡ l.initial.steps + length l.list.items)
