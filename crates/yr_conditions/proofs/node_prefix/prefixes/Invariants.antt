use Rattle.std.proofs.Common.{◌≡◌, ◌≤◌, List, Bool}
use Rattle.std.specs.Option.{option_map}
use Rattle.yr_rules.specs.NodeTree.{Prefix}
use Rattle.yr_syntax.specs.Condition.{tree_of}
use Rattle.yr_syntax.specs.Forms.{HasForms}
use Rattle.yr_syntax.specs.Height.{height}
use Rattle.yr_syntax.specs.declared.condition.Cond.{size-Cond}
use Rattle.yr_conditions.specs.Meanings.{Around, Scope}
use Rattle.yr_conditions.specs.Readers.{Readers}
use Rattle.yr_conditions.specs.Shapes.{shape_of}
use Rattle.yr_conditions.specs.NodeViews.{wrapped}
use Rattle.yr_conditions.proofs.node_prefix.prefixes.Given as goal

abbrev pub invariant-loop-operand : goal.invariant-loop-operand
invariant-loop-operand l = record {
  shape : (exact : Bool) (readers : Readers) (around : Around) (scopes : List Scope)
      → option_map (Prefix l.fn.op) (shape_of exact readers around (tree_of l.inner) scopes)
      ≡ option_map (wrapped l.ops.items) (shape_of exact readers around (tree_of l.operand) scopes);
  height : height (tree_of l.operand) ≡ height (tree_of l.inner);
  forms : HasForms (tree_of l.operand);
  low : size-Cond l.operand ≤ size-Cond l.inner;
}
