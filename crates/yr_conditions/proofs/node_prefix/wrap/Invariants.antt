use Rattle.std.proofs.Common.{◌≡◌, vec_len}
use Rattle.yr_rules.specs.NodeTree.{tree_of}
use Rattle.yr_conditions.specs.NodeViews.{wrapped}
use Rattle.yr_conditions.proofs.node_prefix.wrap.Given as goal

abbrev pub invariant-loop-op : goal.invariant-loop-op
invariant-loop-op l = wrapped l.ops.items (tree_of l.whole.value) ≡ wrapped l.fn.ops.items (tree_of l.fn.node.value)

abbrev pub decreases-loop-op : goal.decreases-loop-op
decreases-loop-op l = vec_len l.ops
