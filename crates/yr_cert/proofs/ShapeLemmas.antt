-- Over wellformed rows where each node has one parent, links to its longest suffix, and each split has one output, the
-- walk finds each end of each word once.
use Rattle.std.proofs.Common.{◌≡◌, ◌≢◌, ℕ, zero, suc, ◌+◌, ◌<◌, ◌≤◌, inl, inr, List, [], ◌∷◌, map, length, length-take, take, drop, take_all, get_or, Option, Some, None, refl, sym, ap, ◌∙◌, subst, arith, Contains}
use Rattle.std.specs.Prelude.{slice_get}
use Rattle.std.specs.List.{flat_map}
use Rattle.std.specs.Option.{option_and_then, option_map_or}
use Rattle.std.proofs.lemmas.Bool.{cases_lt}
use Rattle.std.proofs.lemmas.List.{take-take}
use Rattle.yr_rows.specs.declared.nodes.NodeRow.{NodeRow}
use Rattle.yr_rows.specs.declared.nodes.EdgeRow.{EdgeRow}
use Rattle.yr_rows.specs.Nodes.{AreWellformed, edges_end, outputs_end, end_before, target_in, edges_at, edge_of, link_of, own_of}
use Rattle.yr_rows.specs.Walk.{Walks, IsChain, AreOutputs}
use Rattle.yr_rows.specs.Words.{times, OnceIf, EndsIn, IsWordOf, HasOneParent, LinksToLongestSuffix, HasOneOutput}
use Rattle.yr_automaton.proofs.ListLemmas.{order3, at_has, has_at, get_some, some_inside, segment_at, some_at, length_mapped}
use Rattle.yr_automaton.proofs.RowLemmas.{no_edge, target_at, target_inside}
use Rattle.yr_automaton.proofs.SuffixLemmas.{onto, node_of, front_node, node_step, Longest, Links, longest_after, longest_none, longer_front, chain_counts, times-append}
use Rattle.yr_automaton.proofs.OntoLemmas.{onto_twice, length_onto, node_word, word_node, begins_from_ends, ends_take}
use Rattle.yr_cert.proofs.TimesLemmas.{present, times_has, one_place, times_part_most, get_mapped}

-- ranges that follow one another
module _ (nodes : List NodeRow) (first end : NodeRow → ℕ) (follow : (n : ℕ) (row : NodeRow) → slice_get nodes n ≡ Some row → first row ≡ end_before end nodes n)
    (up : (row : NodeRow) → first row ≤ end row) where
  pub before : (m n : ℕ) (rn rm : NodeRow) → n < m → slice_get nodes n ≡ Some rn → slice_get nodes m ≡ Some rm → end rn ≤ first rm
  before zero n rn rm lt a b = absurd (omega (arith, lt))
  before (suc j) n rn rm lt a b = elim (cases_lt n j) [
    | inl less ↦
        let r = some_at nodes j (omega (arith, some_inside nodes (suc j) rm b)) in
        let here : first rm ≡ end r.0 = follow (suc j) rm b ∙ ap (λ o. option_map_or end o 0) r.1 in
        omega (arith, before j n rn r.0 less a r.1, up r.0, here)
    | inr ge ↦
        let same : n ≡ j = omega (arith, lt, ge) in
        let here : first rm ≡ end rn = follow (suc j) rm b ∙ ap (λ o. option_map_or end o 0) (sym (ap (slice_get nodes) same) ∙ a) in
        omega (arith, here)
  ]

module _ (nodes : List NodeRow) (edges : List EdgeRow) (outs : List ℕ) (some : 0 < length nodes) (formed : AreWellformed nodes edges outs) where
  abbrev edge : ℕ → ℕ → Option ℕ
  edge = edge_of nodes edges

  abbrev link : ℕ → ℕ
  link = link_of nodes

  abbrev own : ℕ → List ℕ
  own = own_of nodes outs

  abbrev targets : List ℕ
  targets = map (λ (e : EdgeRow). e.target) edges

  found_in : (n b m : ℕ) (row : NodeRow) → slice_get nodes n ≡ Some row → edge n b ≡ Some m → target_in (edges_at edges row) b ≡ Some m
  found_in n b m row at e = sym (ap (option_and_then (λ (r : NodeRow). target_in (edges_at edges r) b)) at) ∙ e

  -- the row of an edge
  pub edge_at : (n b m : ℕ) (row : NodeRow) → slice_get nodes n ≡ Some row → edge n b ≡ Some m
      → (p : ℕ) × (row.first_edge ≤ p) × (p < edges_end row) × (p < length edges) × ((get_or edges p no_edge).target ≡ m) × ((get_or edges p no_edge).byte ≡ b)
  edge_at n b m row at e =
      let es = edges_at edges row in
      let r = target_at es b m (found_in n b m row at e) in
      let lt : r.0 < row.edges = omega (arith, r.1, length-take row.edges (drop row.first_edge edges)) in
      let same : get_or es r.0 no_edge ≡ get_or edges (row.first_edge + r.0) no_edge = segment_at row.edges row.first_edge edges r.0 no_edge lt in
      let inside = (formed.each_node n row at).edges_inside in
      (row.first_edge + r.0, omega arith, omega (arith, lt), omega (arith, lt, inside), ap (λ (x : EdgeRow). x.target) (sym same) ∙ r.2, ap (λ (x : EdgeRow). x.byte) (sym same) ∙ r.3)

  -- an edge leads to a node that is one deeper
  pub leads : (n b m : ℕ) (row : NodeRow) → slice_get nodes n ≡ Some row → edge n b ≡ Some m → (to : NodeRow) × (slice_get nodes m ≡ Some to) × (to.depth ≡ row.depth + 1)
  leads n b m row at e =
      let es = edges_at edges row in
      let found = found_in n b m row at e in
      let is = formed.each_node n row at in
      let r = target_at es b m found in
      let to = some_at nodes m (target_inside (length nodes) edges row b m (λ k x h. (formed.each_edge k x h).1) is.edges_inside found) in
      (to.0, to.1, is.deeper r.0 (get_or es r.0 no_edge) (get_some es r.0 no_edge r.1) to.0 (subst (λ i. slice_get nodes i ≡ Some to.0) (sym r.2) to.1))

  -- the node of a word is as deep as the word is long
  pub deep : (r : List ℕ) (n : ℕ) → node_of edge r ≡ Some n → (row : NodeRow) × (slice_get nodes n ≡ Some row) × (row.depth ≡ length r)
  deep [] n e =
      let z : 0 ≡ n = cc e in
      let row = some_at nodes 0 some in
      (row.0, subst (λ i. slice_get nodes i ≡ Some row.0) z row.1, ((formed.each_node 0 row.0 row.1).root refl).0)
  deep (b ∷ r) n e =
      let f = front_node edge (node_of edge r) b n e in
      let d = deep r f.0 f.1 in
      let t = leads f.0 b n d.0 d.1 (sym (node_step edge r b f.0 f.1) ∙ e) in
      (t.0, t.1, omega (arith, t.2, d.2))

  pub at_root : (r : List ℕ) → node_of edge r ≡ Some 0 → length r ≡ 0
  at_root r e = let d = deep r 0 e in omega (arith, d.2, ((formed.each_node 0 d.0 d.1).root refl).0)

  pub edges_before : (m n : ℕ) (rn rm : NodeRow) → n < m → slice_get nodes n ≡ Some rn → slice_get nodes m ≡ Some rm → edges_end rn ≤ rm.first_edge
  edges_before = before nodes (λ row. row.first_edge) edges_end (λ n row at. (formed.each_node n row at).edges_follow) (λ row. omega arith)

  pub outputs_before : (m n : ℕ) (rn rm : NodeRow) → n < m → slice_get nodes n ≡ Some rn → slice_get nodes m ≡ Some rm → outputs_end rn ≤ rm.first_output
  outputs_before = before nodes (λ row. row.first_output) outputs_end (λ n row at. (formed.each_node n row at).outputs_follow) (λ row. omega arith)

  pub own_is : (n : ℕ) (row : NodeRow) → slice_get nodes n ≡ Some row → own n ≡ take row.outputs (drop row.first_output outs)
  own_is n row at = ap (λ o. option_map_or (λ (r : NodeRow). take r.outputs (drop r.first_output outs)) o []) at

  module _ (parents : HasOneParent (length nodes) edges) where
    -- a node has one word
    pub unique : (r q : List ℕ) (n : ℕ) → node_of edge r ≡ Some n → node_of edge q ≡ Some n → r ≡ q
    unique [] [] n e f = refl
    unique [] (c ∷ q) n e f = let z : 0 ≡ n = cc e in absurd (omega (arith, at_root (c ∷ q) (f ∙ ap Some (sym z))))
    unique (b ∷ r) [] n e f = let z : 0 ≡ n = cc f in absurd (omega (arith, at_root (b ∷ r) (e ∙ ap Some (sym z))))
    unique (b ∷ r) (c ∷ q) n e f =
        let fr = front_node edge (node_of edge r) b n e in
        let fq = front_node edge (node_of edge q) c n f in
        let dr = deep r fr.0 fr.1 in
        let dq = deep q fq.0 fq.1 in
        let pr = edge_at fr.0 b n dr.0 dr.1 (sym (node_step edge r b fr.0 fr.1) ∙ e) in
        let pq = edge_at fq.0 c n dq.0 dq.1 (sym (node_step edge q c fq.0 fq.1) ∙ f) in
        let here = deep (b ∷ r) n e in
        let other : n ≢ 0 = λ z. omega (arith, at_root (b ∷ r) (e ∙ ap Some z)) in
        let once = parents n other (some_inside nodes n here.0 here.1) in
        let all = length_mapped (λ (x : EdgeRow). x.target) edges in
        let place : pr.0 ≡ pq.0 = one_place n targets pr.0 pq.0 (omega (arith, once)) (omega (arith, all, pr.3)) (omega (arith, all, pq.3)) (get_mapped (λ (x : EdgeRow). x.target) edges pr.0 no_edge pr.3 ∙ pr.4) (get_mapped (λ (x : EdgeRow). x.target) edges pq.0 no_edge pq.3 ∙ pq.4) in
        let byte : b ≡ c = sym pr.5 ∙ (ap (λ i. (get_or edges i no_edge).byte) place ∙ pq.5) in
        elim (order3 fr.0 fq.0) [
          | inl less ↦ absurd (omega (arith, edges_before fq.0 fr.0 dr.0 dq.0 less dr.1 dq.1, pr.2, pq.1, place))
          | inr o ↦ elim o [
            | inl same ↦ let rest : r ≡ q = unique r q fq.0 (fr.1 ∙ ap Some same) fq.1 in cc (byte, rest)
            | inr more ↦ absurd (omega (arith, edges_before fr.0 fq.0 dq.0 dr.0 more dq.1 dr.1, pq.2, pr.1, place))
          ]
        ]

    module _ (longest : LinksToLongestSuffix (edge_of nodes edges) (link_of nodes)) (one : HasOneOutput outs) where
      links : Links edge link
      links = record {
        root = at_root;
        links = λ n r other e.
            let w = onto [] r in
            let s = longest n w other (word_node edge r ∙ e) in
            let b = begins_from_ends w s.0 s.1.0 in
            let back : onto [] w ≡ r = onto_twice r in
            let len = length_onto [] s.0 in
            let lw = length_onto [] r in (
              length (onto [] s.0),
              omega (arith, len, lw, s.1.1),
              ap (λ x. node_of edge (take (length (onto [] s.0)) x)) (sym back) ∙ (ap (node_of edge) b.1 ∙ (node_word edge s.0 ∙ s.2)),
              λ j m lt h.
                  let lv : length (onto [] (take j r)) ≡ j = omega (arith, length_onto [] (take j r), length-take j r, lt) in
                  let ends : EndsIn w (onto [] (take j r)) = subst (λ x. EndsIn w (onto [] (take j x))) back (ends_take w j) in
                  omega (arith, s.3 (onto [] (take j r)) m (ends, omega (arith, lv, lw, lt)) (word_node edge (take j r) ∙ h), lv, len),
            );
      }

      -- a split stands at most once among a node's outputs
      own_most : (s n : ℕ) → times s (own n) ≤ 1
      own_most s n = go (slice_get nodes n) where
        go : (o : Option NodeRow) → times s (option_map_or (λ (r : NodeRow). take r.outputs (drop r.first_output outs)) o []) ≤ 1
        go None = omega arith
        go (Some r) = omega (arith, times_part_most s r.outputs r.first_output outs, one s)

      -- the output row of a split at a node
      home : (s n : ℕ) → 0 < times s (own n) → (row : NodeRow) × (slice_get nodes n ≡ Some row) × (p : ℕ) × (row.first_output ≤ p) × (p < outputs_end row) × (p < length outs) × (get_or outs p 0 ≡ s)
      home s n pos = go (slice_get nodes n) refl where
        go : (o : Option NodeRow) → slice_get nodes n ≡ o → (row : NodeRow) × (slice_get nodes n ≡ Some row) × (p : ℕ) × (row.first_output ≤ p) × (p < outputs_end row) × (p < length outs) × (get_or outs p 0 ≡ s)
        go None e = let none : own n ≡ [] = ap (λ o. option_map_or (λ (r : NodeRow). take r.outputs (drop r.first_output outs)) o []) e in absurd (omega (arith, pos, ap (times s) none))
        go (Some row) e =
            let mine = take row.outputs (drop row.first_output outs) in
            let k = times_has s mine (omega (arith, pos, ap (times s) (own_is n row e))) in
            let lt : k.0 < row.outputs = omega (arith, k.1, length-take row.outputs (drop row.first_output outs)) in
            let inside = (formed.each_node n row e).outputs_inside in
            (row, e, row.first_output + k.0, omega arith, omega (arith, lt), omega (arith, lt, inside), sym (segment_at row.outputs row.first_output outs k.0 0 lt) ∙ k.2)

      -- a split has outputs at one node
      one_home : (s n m : ℕ) → 0 < times s (own n) → 0 < times s (own m) → n ≡ m
      one_home s n m pn pm =
          let hn = home s n pn in
          let hm = home s m pm in
          let place : hn.2 ≡ hm.2 = one_place s outs hn.2 hm.2 (one s) hn.5 hm.5 hn.6 hm.6 in
          elim (order3 n m) [
            | inl less ↦ absurd (omega (arith, outputs_before m n hn.0 hm.0 less hn.1 hm.1, hn.4, hm.3, place))
            | inr o ↦ elim o [
              | inl same ↦ same
              | inr more ↦ absurd (omega (arith, outputs_before n m hm.0 hn.0 more hm.1 hn.1, hm.4, hn.3, place))
            ]
          ]

      -- an output along the links is that of a suffix
      chain_has : (s : ℕ) (ms : List ℕ) (n : ℕ) (q : List ℕ) → node_of edge q ≡ Some n → IsChain link n ms → 0 < times s (flat_map own ms)
          → (j : ℕ) × (j ≤ length q) × (x : ℕ) × (node_of edge (take j q) ≡ Some x) × (0 < times s (own x))
      chain_has s [] n q e c pos = absurd c
      chain_has s (m ∷ ms) n q e c pos =
          let total = times-append s (own m) (flat_map own ms) in
          elim (cases_lt 0 (times s (own m))) [
            | inl here ↦ (length q, omega arith, m, ap (node_of edge) (take_all (length q) q (omega arith)) ∙ (e ∙ ap Some (sym c.0)), here)
            | inr not_here ↦ elim c.1 [
              | inl end ↦ absurd (omega (arith, total, pos, not_here, ap (λ l. times s (flat_map own l)) end.1))
              | inr on ↦
                  let k = links.links n q on.0 e in
                  let rest = chain_has s ms (link n) (take k.0 q) k.2 on.1 (omega (arith, total, pos, not_here)) in
                  let small : rest.0 ≤ k.0 = omega (arith, rest.1, length-take k.0 q) in
                  (rest.0, omega (arith, small, k.1), rest.2, ap (node_of edge) (sym (take-take rest.0 k.0 q small)) ∙ rest.3, rest.4)
            ]
          ]

      -- the text ends in a word of the split
      abbrev Ends : List ℕ → ℕ → Type 0
      Ends text s = (word : List ℕ) × ((n : ℕ) × IsWordOf edge word n × Contains (own n) s) × EndsIn text word

      -- after each text the outputs are the splits in a word of which it ends, each once
      pub found : (text outputs : List ℕ) (n s : ℕ) → Walks edge link 0 text n → AreOutputs link own n outputs → OnceIf (Ends text s) (times s outputs)
      found text outputs n s walk out = (once, never) where
        r : List ℕ
        r = onto [] text

        l : (k : ℕ) × Longest edge (onto [] text) n k
        l = longest_after edge link links text [] 0 0 n (longest_none edge link) walk

        once : Ends text s → times s outputs ≡ 1
        once p =
            let a = onto [] p.0 in
            let x = p.1.0 in
            let shown : node_of edge a ≡ Some x = node_word edge p.0 ∙ p.1.1 in
            let h = at_has (own x) s p.1.2 in
            let here = present s (own x) h.0 h.1 h.2 in
            let most = own_most s x in
            let has : (m : ℕ) (q : List ℕ) → node_of edge q ≡ Some m → q ≡ a → times s (own m) ≡ 1 = λ m q e same.
            let both : Some m ≡ Some x = sym e ∙ (ap (node_of edge) same ∙ shown) in
            let is : m ≡ x = cc both in
            omega (arith, here, most, ap (λ i. times s (own i)) is) in
            let has_not : (m : ℕ) (q : List ℕ) → node_of edge q ≡ Some m → q ≢ a → times s (own m) ≡ 0 = λ m q e other.
            elim (cases_lt 0 (times s (own m))) [
              | inl pos ↦ let is = one_home s m x pos here in absurd (other (unique q a x (e ∙ ap Some is) shown))
              | inr none ↦ omega (arith, none)
            ] in
            let c = chain_counts edge link links own s a (x, shown) has has_not out.0 n (take l.0 (onto [] text)) l.1.is out.1 in
            let b = begins_from_ends text p.0 p.2 in
            let le = l.1.most (length a) x b.0 (ap (node_of edge) b.1 ∙ shown) in
            ap (times s) out.2 ∙ c.0 (longer_front edge link (onto [] text) a l.0 l.1.within le b)

        never : (Ends text s → ⊥) → times s outputs ≡ 0
        never none = elim (cases_lt 0 (times s outputs)) [
          | inl pos ↦
              let c = chain_has s out.0 n (take l.0 (onto [] text)) l.1.is out.1 (omega (arith, pos, ap (times s) out.2)) in
              let small : c.0 ≤ l.0 = omega (arith, c.1, length-take l.0 (onto [] text)) in
              let shown : node_of edge (take c.0 (onto [] text)) ≡ Some c.2 = ap (node_of edge) (sym (take-take c.0 l.0 (onto [] text) small)) ∙ c.3 in
              let k = times_has s (own c.2) c.4 in
              absurd (none (onto [] (take c.0 (onto [] text)), (c.2, word_node edge (take c.0 (onto [] text)) ∙ shown, has_at (own c.2) k.0 s k.1 k.2), ends_take text c.0))
          | inr zero_times ↦ omega (arith, zero_times)
        ]
