use Rattle.std.proofs.Common.{◌≡◌, length}
use Rattle.yr_walks.proofs.KeptLemmas.{Unmarks}
use Rattle.yr_walks.proofs.carried.EndList.clear.Given as goal

abbrev pub invariant-loop-k : goal.invariant-loop-k
invariant-loop-k l =
    Unmarks l.self-inside.list.items l.self-inside.len l.k l.self-inside.ends.items × (l.self-inside.len ≡ l.k-end)
    × (length l.self-inside.ends.items ≡ length l.initial.self-inside.ends.items)
