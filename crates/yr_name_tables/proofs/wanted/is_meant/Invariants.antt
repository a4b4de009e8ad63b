use Rattle.std.proofs.Common.{◌≡◌, drop, map}
use Rattle.std.specs.List.{list_any}
use Rattle.yr_name_tables.specs.Names.{means}
use Rattle.yr_syntax.specs.Condition.{item_of}
use Rattle.yr_name_tables.proofs.wanted.is_meant.Given as goal

abbrev pub invariant-loop-item : goal.invariant-loop-item
invariant-loop-item l =
    list_any (λ item. means item.name item.wild l.name) (map item_of l.items) ≡ list_any (λ item. means item.name item.wild l.name) (map item_of (drop l.item-index l.items))
