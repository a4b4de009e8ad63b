use Rattle.std.proofs.Common.{◌≡◌, map, take}
use Rattle.yr_pattern.specs.Tree.{tree_of}
use Rattle.yr_pattern.specs.Reverse.{reverse_tree}
use Rattle.yr_pattern.proofs.reversing.+reverse.Given as goal

abbrev pub invariant-reverse_each-loop-p : goal.invariant-reverse_each-loop-p
invariant-reverse_each-loop-p l = map tree_of l.all.items ≡ map reverse_tree (map tree_of (take l.p-index l.patterns))
