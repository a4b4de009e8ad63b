use Rattle.std.proofs.Common.{◌≡◌, length}
use Rattle.yr_moves.proofs.MarkLemmas.{Unmarks}
use Rattle.yr_moves.proofs.marks.MoveSet.clear.Given as goal

abbrev pub invariant-loop-k : goal.invariant-loop-k
invariant-loop-k l =
    Unmarks l.self-inside.list.items l.self-inside.len l.k l.self-inside.seen.items × (l.self-inside.len ≡ l.k-end)
    × (length l.self-inside.seen.items ≡ length l.initial.self-inside.seen.items)
