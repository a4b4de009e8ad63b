use Rattle.std.proofs.Common.{Some, map, ap, sym, ◌∙◌}
use Rattle.std.specs.List.{flat_map}
use Rattle.yr_pattern.specs.Tree.{Alt, tree_of, trees_of}
use Rattle.yr_pattern.proofs.TreeLemmas.{tree_of-Seq, tree_of-Alt}
use Rattle.yr_program.specs.Kept.{kept, kept_list, kept_branch, in_order}
use Rattle.yr_program.proofs.KeptLemmas.{kept_all-trees_of, kept_each-trees_of}
use Rattle.yr_program.proofs.keeping.+keep.Goals as goal

pub keep-returns-in_ok-all-in-Seq : goal.keep-returns-in_ok-all-in-Seq
keep-returns-in_ok-all-in-Seq t c =
    c.one_after_another.ensures
    ∙ ap (λ l. in_order (trees_of l)) (c.in_ok-all-in-Seq.ensures ∙ ap (flat_map (λ p. kept_list (tree_of p))) c.deref.ensures.value)
    ∙ ap in_order (kept_all-trees_of c.in-Seq.members.items)
    ∙ ap kept (sym (ap tree_of c.in-Seq.is ∙ tree_of-Seq c.in-Seq.members))

pub keep-returns-in_ok-all-in-Alt : goal.keep-returns-in_ok-all-in-Alt
keep-returns-in_ok-all-in-Alt t c =
    ap Some
    (tree_of-Alt c.in_ok-all-in-Alt.all
    ∙ ap (λ l. Alt (trees_of l)) (c.in_ok-all-in-Alt.ensures ∙ ap (λ l. map kept_branch (map tree_of l)) c.deref-in-Alt.ensures.value)
    ∙ ap Alt (sym (kept_each-trees_of (map tree_of c.in-Alt.branches.items))))
    ∙ ap kept (sym (ap tree_of c.in-Alt.is ∙ tree_of-Alt c.in-Alt.branches))
