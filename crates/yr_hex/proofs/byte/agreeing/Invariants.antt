use Rattle.std.proofs.Common.{◌≡◌, ℕ, ◌<◌, length, get_or}
use Rattle.yr_pattern.specs.Set.{HasBits}
use Rattle.yr_hex.specs.Meaning.{halves_agree}
use Rattle.yr_hex.proofs.byte.agreeing.Given as goal

abbrev pub invariant-loop-k : goal.invariant-loop-k
invariant-loop-k l = record {
  size : length l.bits ≡ 32;
  agrees : (q : ℕ) → q < l.k → HasBits (halves_agree l.high l.low) q (get_or l.bits q 0);
}
