use Rattle.std.proofs.Common.{◌≡◌, ℕ}
use Rattle.std.specs.Prelude.{◌&&◌, nat_lt}
use Rattle.yr_pattern.specs.Set.{bytes_of}
use Rattle.yr_regex.specs.Escapes.{between}
use Rattle.yr_regex.proofs.escape.between.Given as goal

abbrev pub invariant-loop-b : goal.invariant-loop-b
invariant-loop-b l = (x : ℕ) → bytes_of l.set x ≡ (nat_lt x l.b && between l.from l.to x)
