use Rattle.std.proofs.Common.{◌≡◌, [], All, length}
use Rattle.yr_search.proofs.gathering.empty_lists.Given as goal

abbrev pub invariant-loop-k : goal.invariant-loop-k
invariant-loop-k g l = record {
  long : length l.lists.items ≡ l.k;
  empty : All (λ list. list.items ≡ []) l.lists.items;
}
