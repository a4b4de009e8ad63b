use Rattle.std.proofs.Common.{◌∙◌, ap, arith}
use Rattle.yr_pattern.specs.Tree.{tree_of}
use Rattle.yr_pattern.specs.Sizes.{size_of}
use Rattle.yr_pattern.proofs.ReverseLemmas.{size_of-reverse_tree}
use Rattle.yr_program.proofs.assembly.draft_of.Goals as goal

pub build-requires : goal.build-requires
build-requires c = omega (arith, ap size_of c.in_ok-turned.ensures ∙ size_of-reverse_tree (tree_of c.args.p.now), c.requires)
