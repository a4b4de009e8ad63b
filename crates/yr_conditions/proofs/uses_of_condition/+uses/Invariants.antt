use Rattle.std.proofs.Common.{◌≡◌, ◌++◌, map, drop}
use Rattle.yr_syntax.specs.Condition.{tree_of, links_of, link_of, items_of, step_of, steps_of}
use Rattle.yr_conditions.specs.Around.{around_of}
use Rattle.yr_conditions.specs.Uses as spec
use Rattle.yr_conditions.specs.UseViews.{shown}
use Rattle.yr_conditions.proofs.uses_of_condition.+uses.Given as goal

abbrev pub invariant-add_link_uses-loop-link : goal.invariant-add_link_uses-loop-link
invariant-add_link_uses-loop-link l = record {
  scopes : l.scopes ≡ l.initial.scopes;
  whole :
      l.uses ++ spec.link_uses (around_of l.around) (links_of (map link_of (drop l.link-index l.links))) l.scopes
      ≡ l.initial.uses ++ spec.link_uses (around_of l.around) (links_of (map link_of l.links)) l.scopes;
}

abbrev pub invariant-add_item_uses-loop-item : goal.invariant-add_item_uses-loop-item
invariant-add_item_uses-loop-item l = record {
  scopes : l.scopes ≡ l.initial.scopes;
  whole :
      l.uses ++ spec.item_uses (around_of l.around) (items_of (map tree_of (drop l.item-index l.items))) l.scopes
      ≡ l.initial.uses ++ spec.item_uses (around_of l.around) (items_of (map tree_of l.items)) l.scopes;
}

abbrev pub invariant-add_step_uses-loop-step : goal.invariant-add_step_uses-loop-step
invariant-add_step_uses-loop-step l = record {
  scopes : l.scopes ≡ l.initial.scopes;
  whole :
      l.uses ++ spec.step_uses (around_of l.around) (steps_of (map step_of (drop l.step-index l.steps))) (shown l.meaning) l.scopes
      ≡ l.initial.uses ++ spec.step_uses (around_of l.around) (steps_of (map step_of l.steps)) (shown l.fn.start) l.scopes;
}
