use Rattle.std.proofs.Common.{◌≡◌, ◌<◌, length}
use Rattle.yr_moves.specs.Programs.{moves_of, sets_of}
use Rattle.yr_moves.specs.Passes.{AreBelow}
use Rattle.yr_moves.proofs.EndLemmas.{Searching, Spent}
use Rattle.yr_moves.proofs.ends.find_end.Given as goal

abbrev pub invariant-loop-i : goal.invariant-loop-i
invariant-loop-i g l =
    Searching (moves_of l.rows) (sets_of l.rows) l.file l.at l.least l.greedy l.border l.i l.now.items l.best
    × AreBelow (length (moves_of l.rows)) l.now.items × (l.now.room ≡ l.fn.now.room) × (l.onwards.room ≡ l.fn.now.room)
    × Spent (length (moves_of l.rows)) l.at l.i l.initial.steps l.steps × (l.i ≡ l.at → 0 < length l.now.items)
