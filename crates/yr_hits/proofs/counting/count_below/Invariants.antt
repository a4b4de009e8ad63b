use Rattle.std.proofs.Common.{ℕ, ◌<◌, ◌≤◌, length}
use Rattle.std.specs.Prelude.{slice_index}
use Rattle.yr_hits.proofs.counting.count_below.Given as goal

abbrev pub invariant-down : goal.invariant-down
invariant-down l = record {
  falls : l.left ≤ l.count;
  behind : (q : ℕ) → l.left ≤ q → q < length l.hits → l.place ≤ slice_index l.hits q;
}

abbrev pub decreases-down : goal.decreases-down
decreases-down l = l.left
