use Rattle.std.proofs.Common.{◌≡◌, ◌≤◌, ◌+◌, map, min, drop}
use Rattle.yr_syntax.specs.Condition.{tree_of, links_of, link_of, items_of}
use Rattle.yr_conditions.specs.Around.{around_of}
use Rattle.yr_conditions.specs.SetWeights as spec
use Rattle.yr_conditions.proofs.sets_of_condition.+sets.Given as goal

abbrev pub invariant-add_link_sets-loop-link : goal.invariant-add_link_sets-loop-link
invariant-add_link_sets-loop-link l = record {
  within : l.total ≤ l.limit;
  whole :
      min (l.total + spec.link_sets (around_of l.around) (links_of (map link_of (drop l.link-index l.links)))) l.limit
      ≡ min (l.so_far + spec.link_sets (around_of l.around) (links_of (map link_of l.links))) l.limit;
}

abbrev pub invariant-add_item_sets-loop-item : goal.invariant-add_item_sets-loop-item
invariant-add_item_sets-loop-item l = record {
  within : l.total ≤ l.limit;
  whole :
      min (l.total + spec.item_sets (around_of l.around) (items_of (map tree_of (drop l.item-index l.items)))) l.limit
      ≡ min (l.so_far + spec.item_sets (around_of l.around) (items_of (map tree_of l.items))) l.limit;
}
