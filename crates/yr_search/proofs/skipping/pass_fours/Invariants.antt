use Rattle.std.proofs.Common.{◌≡◌, ℕ, ◌+◌, ◌-◌, ◌*◌, ◌<◌, ◌≤◌, false, length, Some}
use Rattle.std.specs.Prelude.{slice_get, slice_index}
use Rattle.yr_search.proofs.skipping.pass_fours.Given as goal

abbrev pub invariant-loop-at : goal.invariant-loop-at
invariant-loop-at l = record {
  low : l.from ≤ l.at;
  high : l.at < length l.file;
  passed : (k : ℕ) → l.from ≤ k → k < l.at → slice_get l.table (slice_index l.file k * 256 + slice_index l.file (k + 1)) ≡ Some false;
}

abbrev pub decreases-loop-at : goal.decreases-loop-at
decreases-loop-at l = length l.file - l.at
