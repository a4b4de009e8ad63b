-- From a node to node 0 along the edges that lead to it.
use Rattle.std.proofs.Common.{◌≡◌, ◌≢◌, ℕ, zero, suc, ◌+◌, ◌<◌, inl, inr, List, [], ◌∷◌, length, take, drop, Some, None, refl, sym, ap, ◌∙◌, arith}
use Rattle.std.specs.Prelude.{slice_get}
use Rattle.std.specs.Option.{option_and_then}
use Rattle.std.proofs.lemmas.Bool.{cases_lt}
use Rattle.std.proofs.lemmas.Option.{slice_get_past}
use Rattle.yr_rows.specs.declared.nodes.NodeRow.{NodeRow}
use Rattle.yr_rows.specs.Nodes.{target_in, edges_at}
use Rattle.yr_automaton.proofs.ListLemmas.{some_at}
use Rattle.yr_cert.specs.Tries.{IsReadable, nodes_in, edges_in, outputs_in, edge_in}
use Rattle.yr_cert.specs.declared.trie.Trie.{Trie}
use Rattle.yr_cert.proofs.ShapeLemmas.{leads}

-- nothing is left behind a front
pub drop_front : (d : ℕ) (xs : List ℕ) → drop d (take d xs) ≡ []
drop_front zero xs = refl
drop_front (suc d) [] = refl
drop_front (suc d) (x ∷ xs) = drop_front d xs

-- a node with an edge is there
edge_inside : (trie : Trie) (n b m : ℕ) → edge_in trie n b ≡ Some m → n < length (nodes_in trie)
edge_inside trie n b m e = elim (cases_lt n (length (nodes_in trie))) [
  | inl lt ↦ lt
  | inr ge ↦
      let none : slice_get (nodes_in trie) n ≡ None = slice_get_past (nodes_in trie) n (omega (arith, ge)) in
      let both : None ≡ Some m = sym (ap (option_and_then (λ (r : NodeRow). target_in (edges_at (edges_in trie) r) b)) none) ∙ e in
      absurd (cc both)
]

module _ (trie : Trie) (readable : IsReadable trie) where
  pub source_inside : (n b m : ℕ) → edge_in trie n b ≡ Some m → n < length (nodes_in trie)
  source_inside n b m e = edge_inside trie n b m e

  -- node 0 has depth 0, and no other node
  pub is_root : (n left : ℕ) → n < length (nodes_in trie) → ((row : NodeRow) → slice_get (nodes_in trie) n ≡ Some row → row.depth ≡ left) → left ≡ 0 → n ≡ 0
  is_root n left lt deep none = elim (cases_lt 0 n) [
    | inl pos ↦
        let row = some_at (nodes_in trie) n lt in
        absurd (omega (arith, (readable.formed.each_node n row.0 row.1).deep (λ z. omega (arith, z, pos)), deep row.0 row.1, none))
    | inr not ↦ omega (arith, not)
  ]

  pub is_other : (n left : ℕ) → n < length (nodes_in trie) → ((row : NodeRow) → slice_get (nodes_in trie) n ≡ Some row → row.depth ≡ left) → 0 < left → n ≢ 0
  is_other n left lt deep pos = λ z.
      let row = some_at (nodes_in trie) n lt in
      omega (arith, ((readable.formed.each_node n row.0 row.1).root z).0, deep row.0 row.1, pos)

  -- the node before is one less deep
  pub less_deep : (n b m left : ℕ) → edge_in trie n b ≡ Some m → ((row : NodeRow) → slice_get (nodes_in trie) m ≡ Some row → row.depth ≡ left + 1)
      → (row : NodeRow) → slice_get (nodes_in trie) n ≡ Some row → row.depth ≡ left
  less_deep n b m left e deep row at =
      let to = leads (nodes_in trie) (edges_in trie) (outputs_in trie) readable.some readable.formed n b m row at e in
      omega (arith, to.2, deep to.0 to.1)
