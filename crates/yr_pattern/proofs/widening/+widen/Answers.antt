use Rattle.std.proofs.Common.{map, ap, sym, ◌∙◌}
use Rattle.yr_pattern.specs.Tree.{Seq, Alt, tree_of, trees_of}
use Rattle.yr_pattern.specs.Widen.{widen_tree}
use Rattle.yr_pattern.proofs.TreeLemmas.{tree_of-Seq, tree_of-Alt}
use Rattle.yr_pattern.proofs.EachLemmas.{widen_each-trees_of}
use Rattle.yr_pattern.proofs.widening.+widen.Goals as goal

pub widen-returns-in_ok-all-in-Seq : goal.widen-returns-in_ok-all-in-Seq
widen-returns-in_ok-all-in-Seq t c =
    tree_of-Seq c.in_ok-all-in-Seq.all
    ∙ ap (λ l. Seq (trees_of l)) (c.in_ok-all-in-Seq.ensures ∙ ap (λ l. map widen_tree (map tree_of l)) c.deref.ensures.value)
    ∙ ap Seq (sym (widen_each-trees_of (map tree_of c.in-Seq.members.items)))
    ∙ ap widen_tree (sym (ap tree_of c.in-Seq.is ∙ tree_of-Seq c.in-Seq.members))

pub widen-returns-in_ok-all-in-Alt : goal.widen-returns-in_ok-all-in-Alt
widen-returns-in_ok-all-in-Alt t c =
    tree_of-Alt c.in_ok-all-in-Alt.all
    ∙ ap (λ l. Alt (trees_of l)) (c.in_ok-all-in-Alt.ensures ∙ ap (λ l. map widen_tree (map tree_of l)) c.deref-in-Alt.ensures.value)
    ∙ ap Alt (sym (widen_each-trees_of (map tree_of c.in-Alt.branches.items)))
    ∙ ap widen_tree (sym (ap tree_of c.in-Alt.is ∙ tree_of-Alt c.in-Alt.branches))
