use Rattle.std.proofs.Common.{ℕ, ◌<◌, get_or}
use Rattle.yr_scan.proofs.bytes.are_bytes.Given as goal

abbrev pub invariant-loop-k : goal.invariant-loop-k
invariant-loop-k l = (n : ℕ) → n < l.k → get_or l.fn.bytes n 0 < 256
