use Rattle.std.proofs.Common.{◌≡◌, ◌-◌, ◌^◌, map, min, drop}
use Rattle.yr_pattern.specs.Tree.{tree_of, trees_of}
use Rattle.yr_pattern.specs.Sizes.{sizes_of}
use Rattle.yr_pattern.proofs.sizes.+size.Given as goal

abbrev pub invariant-sum_of_sizes-loop-i : goal.invariant-sum_of_sizes-loop-i
invariant-sum_of_sizes-loop-i l = l.total ≡ min (sizes_of (trees_of (map tree_of (drop l.i l.patterns)))) (2 ^ 64 - 1)
