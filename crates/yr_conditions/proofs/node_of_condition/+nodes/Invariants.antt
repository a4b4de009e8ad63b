use Rattle.std.proofs.Common.{◌≡◌, ◌+◌, ◌≤◌, ◌++◌, [], drop, length, map}
use Rattle.std.specs.Option.{option_map}
use Rattle.yr_rules.specs.NodeTree.{tree_of, link_of}
use Rattle.yr_syntax.specs.Condition as tree
use Rattle.yr_syntax.specs.Forms.{LinksHaveForms, ItemsHaveForms, StepsHaveForms, height_limit}
use Rattle.yr_syntax.specs.Height.{links_height, items_height, steps_height}
use Rattle.yr_conditions.specs.Around.{around_of}
use Rattle.yr_conditions.specs.UseViews.{shown}
use Rattle.yr_conditions.specs.Fixed.{the_readers}
use Rattle.yr_conditions.specs.Nodes.{items_node}
use Rattle.yr_conditions.specs.Shapes as shape
use Rattle.yr_conditions.specs.NodeViews.{linked, listed, written_of, IsLow}
use Rattle.yr_conditions.proofs.node_of_condition.+nodes.Given as goal

abbrev pub invariant-links-loop-link : goal.invariant-links-loop-link
invariant-links-loop-link l = record {
  scopes : l.scopes ≡ l.initial.scopes;
  forms : LinksHaveForms (tree.links_of (map tree.link_of (drop l.link-index l.rest)));
  low : links_height (tree.links_of (map tree.link_of (drop l.link-index l.rest))) + length l.scopes ≤ height_limit;
  whole :
      option_map (linked (map link_of l.all.items)) (shape.links_shape l.exact the_readers (around_of l.around) (tree.links_of (map tree.link_of (drop l.link-index l.rest))) l.scopes)
      ≡ shape.links_shape l.exact the_readers (around_of l.around) (tree.links_of (map tree.link_of l.rest)) l.scopes;
}

abbrev pub invariant-items-loop-item : goal.invariant-items-loop-item
invariant-items-loop-item l = record {
  scopes : l.scopes ≡ l.initial.scopes;
  forms : ItemsHaveForms (tree.items_of (map tree.tree_of (drop l.item-index l.all)));
  low : items_height (tree.items_of (map tree.tree_of (drop l.item-index l.all))) + length l.scopes ≤ height_limit;
  whole :
      option_map (listed (map tree_of l.made.items)) (items_node (shape.each_shape l.exact the_readers (around_of l.around) (tree.items_of (map tree.tree_of (drop l.item-index l.all))) l.scopes))
      ≡ items_node (shape.each_shape l.exact the_readers (around_of l.around) (tree.items_of (map tree.tree_of l.all)) l.scopes);
}

abbrev pub invariant-each-loop-item : goal.invariant-each-loop-item
invariant-each-loop-item l = record {
  scopes : l.scopes ≡ l.initial.scopes;
  forms : ItemsHaveForms (tree.items_of (map tree.tree_of (drop l.item-index l.all)));
  low : items_height (tree.items_of (map tree.tree_of (drop l.item-index l.all))) + length l.scopes ≤ height_limit;
  whole :
      written_of l.made.items ++ shape.each_shape l.exact the_readers (around_of l.around) (tree.items_of (map tree.tree_of (drop l.item-index l.all))) l.scopes
      ≡ shape.each_shape l.exact the_readers (around_of l.around) (tree.items_of (map tree.tree_of l.all)) l.scopes;
}

abbrev pub invariant-steps_behind-loop-step : goal.invariant-steps_behind-loop-step
invariant-steps_behind-loop-step l = record {
  scopes : l.scopes ≡ l.initial.scopes;
  forms : StepsHaveForms (tree.steps_of (map tree.step_of (drop l.step-index l.steps)));
  low : steps_height (tree.steps_of (map tree.step_of (drop l.step-index l.steps))) + length l.scopes ≤ height_limit;
  known : IsLow (length l.scopes) (length l.around.externals.now) (shown l.meaning);
  whole :
      shape.steps_shape l.exact the_readers (around_of l.around) (tree.steps_of (map tree.step_of (drop l.step-index l.steps))) (shown l.meaning) (written_of l.written.items) l.scopes
      ≡ shape.steps_shape l.exact the_readers (around_of l.around) (tree.steps_of (map tree.step_of l.steps)) (shown l.fn.start) [] l.scopes;
}
