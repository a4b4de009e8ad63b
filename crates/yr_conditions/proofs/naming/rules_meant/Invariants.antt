use Rattle.std.proofs.Common.{◌≡◌, map, take, get_or}
use Rattle.yr_conditions.proofs.naming.rules_meant.Given as goal

abbrev pub invariant-loop-place : goal.invariant-loop-place
invariant-loop-place l = l.met.items ≡ map (λ p. get_or l.numbers p 0) (take l.place-index l.place-items)
