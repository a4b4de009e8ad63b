use Rattle.std.proofs.Common.{◌≡◌, map, take}
use Rattle.std.specs.List.{flat_map}
use Rattle.yr_pattern.specs.Tree.{tree_of}
use Rattle.yr_program.specs.Kept.{kept_list, kept_branch}
use Rattle.yr_program.proofs.keeping.+keep.Given as goal

abbrev pub invariant-keep_all-loop-member : goal.invariant-keep_all-loop-member
invariant-keep_all-loop-member l = map tree_of l.all.items ≡ flat_map (λ p. kept_list (tree_of p)) (take l.member-index l.members)

abbrev pub invariant-keep_each-loop-branch : goal.invariant-keep_each-loop-branch
invariant-keep_each-loop-branch l = map tree_of l.all.items ≡ map kept_branch (map tree_of (take l.branch-index l.branches))
