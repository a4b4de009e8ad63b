use Rattle.std.proofs.Common.{◌≡◌, ℕ, ◌<◌, length, get_or}
use Rattle.yr_pattern.specs.Set.{bytes_of, in_either_case, HasBits}
use Rattle.yr_pattern.proofs.byte_set.ByteSet.fold.Given as goal

abbrev pub invariant-loop-k : goal.invariant-loop-k
invariant-loop-k l = record {
  lengths : (length l.bits ≡ 32) × (length l.self.bits ≡ 32);
  folded : (q : ℕ) → q < l.k → HasBits (in_either_case (bytes_of l.self)) q (get_or l.bits q 0);
}
