use Rattle.std.proofs.Common.{◌<◌, ◌∙◌, length, ap, arith, map}
use Rattle.yr_pattern.specs.Tree.{tree_of, trees_of}
use Rattle.yr_pattern.specs.Sizes.{size_of, sizes_of}
use Rattle.yr_pattern.proofs.TreeLemmas.{size_of-Alt}
use Rattle.yr_pattern.proofs.sizes.+size.Goals as goal

pub size-returns-else-is_empty : goal.size-returns-else-is_empty
size-returns-else-is_empty t c =
    let some : 0 < length c.in-Alt.branches.items = grind (arith, c.in-Alt.branches.ok.0) in
    let size = ap (λ p. size_of (tree_of p)) c.in-Alt.is ∙ size_of-Alt c.in-Alt.branches some in
    let same = ap (λ ps. sizes_of (trees_of (map tree_of ps))) c.deref-else-is_empty.ensures.value in
    omega (arith, size, same, c.in-Alt.branches.ok.0)
