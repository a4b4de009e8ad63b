use Rattle.std.proofs.Common.{◌≡◌, map, take}
use Rattle.yr_pattern.specs.Tree.{tree_of}
use Rattle.yr_pattern.specs.Widen.{widen_tree}
use Rattle.yr_pattern.proofs.widening.+widen.Given as goal

abbrev pub invariant-widen_each-loop-p : goal.invariant-widen_each-loop-p
invariant-widen_each-loop-p l = map tree_of l.all.items ≡ map widen_tree (map tree_of (take l.p-index l.patterns))
