use Rattle.std.proofs.Common.{◌≡◌, ℕ, ◌<◌, length, get_or, w8}
use Rattle.std.specs.Int.{bit_not}
use Rattle.yr_pattern.proofs.byte_set.ByteSet.complement.Given as goal

abbrev pub invariant-loop-k : goal.invariant-loop-k
invariant-loop-k l = record {
  lengths : (length l.bits ≡ 32) × (length l.self.bits ≡ 32);
  turned : (q : ℕ) → q < l.k → (get_or l.bits q 0 ≡ bit_not w8 (get_or l.self.bits q 0)) × (get_or l.self.bits q 0 < 256);
}
