-- Items that are copied to a loop.
use Rattle.std.proofs.Common.{ℕ, zero, suc, ◌<◌, List, [], ◌∷◌, length, map, get_or, arith}
use Rattle.yr_base.specs.declared.value.Value as lent_value
use Rattle.yr_values.specs.Values.{shown}
use Rattle.yr_vm.specs.Items.{IsItem, AreItems}

abbrev Cell : Type 0
Cell = lent_value.Value

pub item-at : (values : List Cell) (k : ℕ) (d : Cell) → k < length values → AreItems (map shown values) → IsItem (shown (get_or values k d))
item-at [] k d lt a = absurd (omega arith)
item-at (v ∷ values) zero d lt a = a.0
item-at (v ∷ values) (suc k) d lt a = item-at values k d (omega (arith, lt)) a.1
