use Rattle.std.proofs.Common.{◌≡◌, map, take}
use Rattle.yr_pattern.specs.Tree.{tree_of}
use Rattle.yr_pattern.specs.Fold.{fold_tree}
use Rattle.yr_pattern.proofs.folding.+fold.Given as goal

abbrev pub invariant-fold_each-loop-p : goal.invariant-fold_each-loop-p
invariant-fold_each-loop-p l = map tree_of l.all.items ≡ map fold_tree (map tree_of (take l.p-index l.patterns))
