use Rattle.std.proofs.Common.{◌≡◌, inl, inr, sym, ◌∙◌, subst, arith}
use Rattle.std.proofs.lemmas.Option.{slice_get-get_or}
use Rattle.yr_rows.specs.Words.{times}
use Rattle.yr_automaton.proofs.ListLemmas.{below_or_at}
use Rattle.yr_cert.specs.Tries.{edge_in, edges_in, targets_of}
use Rattle.yr_cert.proofs.ParentLemmas.{says_all, one_edge, not_one_edge}
use Rattle.yr_cert.proofs.reaching.orphan.Goals as goal

pub returns-then-not-is_one-clause-least : goal.returns-then-not-is_one-clause-least
returns-then-not-is_one-clause-least c =
    let trie = c.args.trie.now in
    let parents = c.args.parents.now in
    let n = c.loop-n.n in
    let says = says_all trie c.requires.readable parents c.requires.parents n _ (slice_get-get_or parents n _ (omega (arith, c.loop-n-test.true, c.requires.readable.count, c.requires.parents.long))) in
    let not_one = not_one_edge (edge_in trie) n (times n (targets_of (edges_in trie))) _ says (sym c.is_one.ensures ∙ c.if-not-is_one.true) in
    ((λ z. omega (arith, z, c.loop-n.auto.n), omega (arith, c.loop-n-test.true, c.requires.readable.count), not_one), λ m lt bad. bad.2 (c.loop-n.invariant m bad.0 lt))

pub loop-n-preserved : goal.loop-n-preserved
loop-n-preserved c = λ m other lt.
    let trie = c.args.trie.now in
    let parents = c.args.parents.now in
    let n = c.loop-n.n in
    let says = says_all trie c.requires.readable parents c.requires.parents n _ (slice_get-get_or parents n _ (omega (arith, c.loop-n-test.true, c.requires.readable.count, c.requires.parents.long))) in
    let one = one_edge (edge_in trie) n (times n (targets_of (edges_in trie))) _ says (sym c.is_one.ensures ∙ c.if-not-is_one.false) in
    elim (below_or_at m n lt) [
      | inl old ↦ c.loop-n.invariant m other old
      | inr same ↦ subst (λ i. times i (targets_of (edges_in trie)) ≡ 1) (sym same) one
    ]
