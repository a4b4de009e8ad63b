use Rattle.std.proofs.Common.{◌≡◌, ◌++◌, map, take}
use Rattle.yr_syntax.specs.Condition.{item_of}
use Rattle.yr_conditions.specs.Uses.{member_use}
use Rattle.yr_conditions.proofs.uses_of_condition.add_members.Given as goal

abbrev pub invariant-loop-item : goal.invariant-loop-item
invariant-loop-item l = l.uses ≡ l.initial.uses ++ map member_use (map item_of (take l.item-index l.items))
