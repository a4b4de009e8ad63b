use Rattle.std.proofs.Common.{◌≡◌, ◌-◌, length}
use Rattle.yr_moves.specs.Walks.{IsMidway}
use Rattle.yr_moves.proofs.EndLemmas.{Spent}
use Rattle.yr_moves.proofs.WalkLemmas.{Falling}
use Rattle.yr_moves.proofs.start_walk.StartWalk.find.Given as goal

abbrev pub invariant-falling : goal.invariant-falling
invariant-falling g l =
    IsMidway l.self l.now × Falling l.fn.self l.self × (l.now.room ≡ l.fn.now.room) × (l.onwards.room ≡ l.fn.now.room)
    × Spent (length l.fn.self.moves) 0 (l.fn.self.place - l.self.place) l.initial.steps l.steps

abbrev pub decreases-falling : goal.decreases-falling
decreases-falling g l = l.self.place
