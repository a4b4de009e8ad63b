use Rattle.std.proofs.Common.{map, ap, sym, ◌∙◌}
use Rattle.yr_pattern.specs.Tree.{Seq, Alt, tree_of, trees_of}
use Rattle.yr_pattern.specs.Reverse.{reverse_tree}
use Rattle.yr_pattern.proofs.TreeLemmas.{tree_of-Seq, tree_of-Alt}
use Rattle.yr_pattern.proofs.EachLemmas.{tree_of-reverse, reverse_each-trees_of}
use Rattle.yr_pattern.proofs.reversing.+reverse.Goals as goal

pub reverse-returns-in_ok-all-in-Seq : goal.reverse-returns-in_ok-all-in-Seq
reverse-returns-in_ok-all-in-Seq t c =
    tree_of-Seq c.reverse.new.self
    ∙ ap Seq (tree_of-reverse c.in-Seq.members.items c.in_ok-all-in-Seq.all.items c.reverse.new.self.items
    (c.in_ok-all-in-Seq.ensures ∙ ap (λ l. map reverse_tree (map tree_of l)) c.deref.ensures.value) c.reverse.ensures.items)
    ∙ ap reverse_tree (sym (ap tree_of c.in-Seq.is ∙ tree_of-Seq c.in-Seq.members))

pub reverse-returns-in_ok-all-in-Alt : goal.reverse-returns-in_ok-all-in-Alt
reverse-returns-in_ok-all-in-Alt t c =
    tree_of-Alt c.in_ok-all-in-Alt.all
    ∙ ap (λ l. Alt (trees_of l)) (c.in_ok-all-in-Alt.ensures ∙ ap (λ l. map reverse_tree (map tree_of l)) c.deref-in-Alt.ensures.value)
    ∙ ap Alt (sym (reverse_each-trees_of (map tree_of c.in-Alt.branches.items)))
    ∙ ap reverse_tree (sym (ap tree_of c.in-Alt.is ∙ tree_of-Alt c.in-Alt.branches))
