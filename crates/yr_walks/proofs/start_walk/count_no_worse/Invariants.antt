use Rattle.std.proofs.Common.{◌≡◌, ℕ, ◌-◌, ◌<◌, ◌≤◌, Some, length}
use Rattle.std.specs.Prelude.{slice_get}
use Rattle.yr_walks.specs.declared.carried.Carried.{Carried}
use Rattle.yr_walks.specs.Carried.{IsNoWorse}
use Rattle.yr_walks.proofs.start_walk.count_no_worse.Given as goal

abbrev pub invariant-loop-count : goal.invariant-loop-count
invariant-loop-count l =
    (l.count ≤ length l.list.items) × ((q : ℕ) (c : Carried) → q < l.count → slice_get l.list.items q ≡ Some c → IsNoWorse l.greedy c.end l.end)

abbrev pub decreases-loop-count : goal.decreases-loop-count
decreases-loop-count l = length l.list.items - l.count
