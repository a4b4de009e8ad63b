use Rattle.std.proofs.Common.{◌≡◌, length}
use Rattle.yr_moves.specs.Programs.{moves_of, sets_of}
use Rattle.yr_moves.specs.Passes.{AreBelow}
use Rattle.yr_moves.proofs.EndLemmas.{Spent}
use Rattle.yr_moves.proofs.OccursLemmas.{Looking}
use Rattle.yr_moves.proofs.occurrence.find_occurrence.Given as goal

abbrev pub invariant-loop-i : goal.invariant-loop-i
invariant-loop-i g l =
    Looking (moves_of l.rows) (sets_of l.rows) l.text l.i l.now.items
    × AreBelow (length (moves_of l.rows)) l.now.items × (l.now.room ≡ l.fn.now.room) × (l.onwards.room ≡ l.fn.now.room)
    × Spent (length (moves_of l.rows)) 0 l.i l.initial.steps l.steps
