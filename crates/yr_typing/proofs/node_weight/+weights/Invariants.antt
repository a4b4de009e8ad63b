use Rattle.std.proofs.Common.{◌≡◌, ◌≤◌, ◌+◌, ◌-◌, ◌^◌, map, min, drop}
use Rattle.yr_rules.specs.Weight as spec
use Rattle.yr_rules.specs.NodeTree.{tree_of, links_of, link_of, items_of}
use Rattle.yr_rules.specs.declared.node.Node.{size-Node}
use Rattle.yr_typing.specs.Open.{open_of}
use Rattle.yr_typing.proofs.node_weight.+weights.Given as goal

abbrev pub invariant-items_weight-loop-i : goal.invariant-items_weight-loop-i
invariant-items_weight-loop-i l = l.total ≡ min (spec.items_weight (items_of (map tree_of (drop l.i l.items))) (open_of l.loops)) (2 ^ 64 - 1)

abbrev pub invariant-links_weight-loop-i : goal.invariant-links_weight-loop-i
invariant-links_weight-loop-i l = l.total ≡ min (spec.links_weight (links_of (map link_of (drop l.i l.links))) (open_of l.loops)) (2 ^ 64 - 1)

abbrev pub invariant-prefixes_weight-loop-operand : goal.invariant-prefixes_weight-loop-operand
invariant-prefixes_weight-loop-operand l = record {
  whole :
      min (l.run + spec.node_weight (tree_of l.operand) (open_of l.loops)) (2 ^ 64 - 1)
      ≡ min (16 + spec.node_weight (tree_of l.fn.inner) (open_of l.loops)) (2 ^ 64 - 1);
  low : size-Node l.operand ≤ size-Node l.fn.inner;
}
