use Rattle.std.proofs.Common.{inl, inr, sym, ◌∙◌, subst, arith, true≢false}
use Rattle.yr_automaton.proofs.ListLemmas.{below_or_at}
use Rattle.yr_cert.specs.Faults.{LinksRight}
use Rattle.yr_cert.specs.Tries.{nodes_in, edges_in, outputs_in}
use Rattle.yr_cert.proofs.SuffixesLemmas.{word_inside}
use Rattle.yr_cert.proofs.linking.misled.Goals as goal

pub returns-then-not-links_right-clause-least : goal.returns-then-not-links_right-clause-least
returns-then-not-links_right-clause-least c = (
  (
    λ z. omega (arith, z, c.loop-n.auto.n),
    omega (arith, c.loop-n-test.true, c.requires.readable.count),
    λ right. true≢false (sym (c.links_right.ensures.1 right) ∙ c.if-not-links_right.true),
  ),
  λ m lt bad. bad.2 (c.loop-n.invariant m bad.0 lt),
)

pub loop-n-preserved : goal.loop-n-preserved
loop-n-preserved c = λ m other lt. elim (below_or_at m c.loop-n.n lt) [
  | inl old ↦ c.loop-n.invariant m other old
  | inr same ↦ subst (LinksRight (nodes_in c.args.trie.now) (edges_in c.args.trie.now)) (sym same) (c.links_right.ensures.0 c.if-not-links_right.false)
]

pub returns-clause-none : goal.returns-clause-none
returns-clause-none c = λ e n w other is.
    let trie = c.args.trie.now in
    let readable = c.requires.readable in
    let lt = word_inside (nodes_in trie) (edges_in trie) (outputs_in trie) readable.some readable.formed w n is in
    c.loop-n.invariant n other (omega (arith, lt, readable.count, c.loop-n-test.false)) w is
