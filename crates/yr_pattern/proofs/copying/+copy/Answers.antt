use Rattle.std.proofs.Common.{map, ap, sym, ◌∙◌}
use Rattle.yr_pattern.specs.Tree.{Seq, Alt, tree_of, trees_of}
use Rattle.yr_pattern.proofs.TreeLemmas.{tree_of-Seq, tree_of-Alt}
use Rattle.yr_pattern.proofs.copying.+copy.Goals as goal

pub copy-returns-in_ok-all-in-Seq : goal.copy-returns-in_ok-all-in-Seq
copy-returns-in_ok-all-in-Seq t c =
    tree_of-Seq c.in_ok-all-in-Seq.all
    ∙ ap (λ l. Seq (trees_of l)) (c.in_ok-all-in-Seq.ensures ∙ ap (map tree_of) c.deref.ensures.value)
    ∙ sym (ap tree_of c.in-Seq.is ∙ tree_of-Seq c.in-Seq.members)

pub copy-returns-in_ok-all-in-Alt : goal.copy-returns-in_ok-all-in-Alt
copy-returns-in_ok-all-in-Alt t c =
    tree_of-Alt c.in_ok-all-in-Alt.all
    ∙ ap (λ l. Alt (trees_of l)) (c.in_ok-all-in-Alt.ensures ∙ ap (map tree_of) c.deref-in-Alt.ensures.value)
    ∙ sym (ap tree_of c.in-Alt.is ∙ tree_of-Alt c.in-Alt.branches)
