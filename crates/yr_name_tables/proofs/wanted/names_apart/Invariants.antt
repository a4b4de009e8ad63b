use Rattle.std.proofs.Common.{◌≡◌, ◌++◌, drop, map}
use Rattle.std.specs.List.{flat_map}
use Rattle.yr_syntax.specs.Condition.{item_of}
use Rattle.yr_name_tables.specs.Wanted.{front_name, whole_name}
use Rattle.yr_name_tables.proofs.wanted.names_apart.Given as goal

abbrev pub invariant-loop-item : goal.invariant-loop-item
invariant-loop-item l = record {
  wholes : l.wholes ++ flat_map whole_name (map item_of (drop l.item-index l.items)) ≡ flat_map whole_name (map item_of l.items);
  fronts : l.fronts ++ flat_map front_name (map item_of (drop l.item-index l.items)) ≡ flat_map front_name (map item_of l.items);
}
