use Rattle.std.proofs.Common.{◌≡◌, ℕ, ◌<◌, false, take}
use Rattle.yr_name_tables.specs.Names.{has}
use Rattle.yr_name_tables.proofs.front.has_front.Given as goal

abbrev pub invariant-loop-size : goal.invariant-loop-size
invariant-loop-size l = (k : ℕ) → k < l.size → has (take k l.name) l.fronts ≡ false
