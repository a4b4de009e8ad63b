use Rattle.std.proofs.Common.{◌≡◌, ◌+◌, map, take}
use Rattle.yr_conditions.proofs.naming.numbers_meant.Given as goal

abbrev pub invariant-loop-place : goal.invariant-loop-place
invariant-loop-place l = l.met.items ≡ map (λ p. l.first + p) (take l.place-index l.place-items)
