use Rattle.std.proofs.Common.{◌≡◌, ℕ, ◌<◌, length, get_or}
use Rattle.std.specs.Prelude.{bit_or}
use Rattle.yr_pattern.proofs.byte_set.ByteSet.union.Given as goal

abbrev pub invariant-loop-k : goal.invariant-loop-k
invariant-loop-k l = record {
  lengths : (length l.bits ≡ 32) × (length l.self.bits ≡ 32) × (length l.other.bits ≡ 32);
  joined : (q : ℕ) → q < l.k → get_or l.bits q 0 ≡ bit_or (get_or l.self.bits q 0) (get_or l.other.bits q 0);
}
