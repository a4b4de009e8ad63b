use Rattle.std.proofs.Common.{◌≡◌, ◌≤◌, map, drop}
use Rattle.yr_rules.specs.Kinds as spec
use Rattle.yr_rules.specs.NodeTree.{tree_of, links_of, link_of, items_of}
use Rattle.yr_rules.specs.Rules.{external_of}
use Rattle.yr_rules.specs.declared.node.Node.{size-Node}
use Rattle.yr_typing.specs.Open.{open_of}
use Rattle.yr_typing.specs.Prefixes.{kind_behind}
use Rattle.yr_typing.proofs.node_kind.+kinds.Given as goal

abbrev pub invariant-items_kind-loop-i : goal.invariant-items_kind-loop-i
invariant-items_kind-loop-i l = l.all ≡ spec.items_kind (map external_of l.externals) (items_of (map tree_of (drop l.i l.items))) (open_of l.loops)

abbrev pub invariant-links_kind-loop-link : goal.invariant-links_kind-loop-link
invariant-links_kind-loop-link l =
    spec.links_kind (map external_of l.externals) l.before (links_of (map link_of (drop l.link-index l.links))) (open_of l.loops)
    ≡ spec.links_kind (map external_of l.externals) l.fn.first (links_of (map link_of l.links)) (open_of l.loops)

abbrev pub invariant-prefixes_kind-loop-operand : goal.invariant-prefixes_kind-loop-operand
invariant-prefixes_kind-loop-operand l = record {
  whole :
      kind_behind l.run (spec.kind_of (map external_of l.externals) (tree_of l.operand) (open_of l.loops))
      ≡ spec.prefix_kind l.fn.op (spec.kind_of (map external_of l.externals) (tree_of l.fn.inner) (open_of l.loops));
  low : size-Node l.operand ≤ size-Node l.fn.inner;
}
