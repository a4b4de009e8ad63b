use Rattle.std.proofs.Common.{◌≡◌, ◌+◌, ◌-◌, length}
use Rattle.yr_moves.specs.Programs.{moves_of, sets_of}
use Rattle.yr_moves.proofs.PassLemmas.{Passing}
use Rattle.yr_moves.proofs.pass.pass.Given as goal

abbrev pub invariant-loop-k : goal.invariant-loop-k
invariant-loop-k g l =
    Passing (moves_of l.rows) (sets_of l.rows) l.file l.i l.byte l.k l.initial.now.items l.now.items l.onwards.items l.found
    × (l.now.room ≡ l.initial.now.room) × (l.onwards.room ≡ l.fn.onwards.room) × (l.steps ≡ l.initial.steps + l.k)

abbrev pub decreases-loop-k : goal.decreases-loop-k
decreases-loop-k g l = length (moves_of l.rows) - l.k
