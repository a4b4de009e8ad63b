use Rattle.std.proofs.Common.{◌≡◌, ◌≤◌, List, map, drop}
use Rattle.yr_rules.specs.declared.node.Node.{size-Node}
use Rattle.yr_rules.specs.NodeTree.{Prefix, tree_of, items_of, links_of, link_of}
use Rattle.yr_rules.specs.Rules.{external_of}
use Rattle.yr_image.specs.declared.rows.CodeRow.{CodeRow}
use Rattle.yr_image.specs.Image.{Image}
use Rattle.yr_emission.specs.Parts.{items_part, links_part}
use Rattle.yr_emission.specs.Prefixed.{prefixed}
use Rattle.yr_emission.specs.Written.{Written}
use Rattle.yr_emission.proofs.emission.+emit.Given as goal

-- who writes the rest from here has written the whole
abbrev pub invariant-emit_items-loop-i : goal.invariant-emit_items-loop-i
invariant-emit_items-loop-i l =
    let externals = map external_of l.externals in
    (rows : List CodeRow) (image : Image) → Written (items_part externals (items_of (map tree_of (drop l.i l.items)))) l.rows.items rows l.draft image
    → Written (items_part externals (items_of (map tree_of l.items))) l.initial.rows.items rows l.initial.draft image

abbrev pub invariant-emit_links-loop-i : goal.invariant-emit_links-loop-i
invariant-emit_links-loop-i l =
    let externals = map external_of l.externals in
    (rows : List CodeRow) (image : Image) → Written (links_part externals (links_of (map link_of (drop l.i l.links))) l.kind) l.rows.items rows l.draft image
    → Written (links_part externals (links_of (map link_of l.links)) l.fn.before) l.initial.rows.items rows l.initial.draft image

abbrev pub invariant-emit_prefixes-loop-operand : goal.invariant-emit_prefixes-loop-operand
invariant-emit_prefixes-loop-operand l = record {
  under : prefixed l.ops.items (tree_of l.operand) ≡ Prefix l.fn.op (tree_of l.fn.inner);
  low : size-Node l.operand ≤ size-Node l.fn.inner;
}
