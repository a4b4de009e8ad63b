use Rattle.std.proofs.Common.{◌≡◌, map, take}
use Rattle.yr_pattern.specs.Tree.{tree_of}
use Rattle.yr_pattern.proofs.copying.+copy.Given as goal

abbrev pub invariant-copy_each-loop-p : goal.invariant-copy_each-loop-p
invariant-copy_each-loop-p l = map tree_of l.all.items ≡ map tree_of (take l.p-index l.patterns)
