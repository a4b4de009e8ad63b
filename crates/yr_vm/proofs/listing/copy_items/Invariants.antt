use Rattle.std.proofs.Common.{◌≡◌, map, take, length}
use Rattle.yr_values.specs.Values.{shown}
use Rattle.yr_vm.specs.Turns.{item_shown}
use Rattle.yr_vm.proofs.listing.copy_items.Given as goal

abbrev pub invariant-loop-k : goal.invariant-loop-k
invariant-loop-k l = (map item_shown (take l.k l.items) ≡ map shown (take l.k l.values)) × (length l.items ≡ 128)
