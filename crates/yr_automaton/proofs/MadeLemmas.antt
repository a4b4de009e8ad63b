-- The rows that were made are the automaton of the atoms.
use Rattle.std.proofs.Common.{◌≡◌, ◌≢◌, ℕ, ◌+◌, ◌<◌, ◌≤◌, inl, inr, List, [], ◌∷◌, ◌++◌, map, length, length-take, take, drop, take_all, get_or, Option, Some, None, refl, sym, ap, ◌∙◌, subst, arith}
use Rattle.std.specs.Prelude.{slice_get}
use Rattle.std.specs.List.{flat_map}
use Rattle.std.specs.Option.{option_map_or}
use Rattle.std.proofs.lemmas.Bool.{cases_lt}
use Rattle.yr_rows.specs.declared.nodes.NodeRow.{NodeRow}
use Rattle.yr_rows.specs.declared.nodes.EdgeRow.{EdgeRow}
use Rattle.yr_base.specs.declared.atom.Atom.{Atom}
use Rattle.yr_rows.specs.Words.{Reports, times, path, EndsIn}
use Rattle.yr_rows.specs.Walk.{Walks, IsChain}
use Rattle.yr_rows.specs.Nodes.{edge_of, link_of, own_of}
use Rattle.yr_automaton.specs.Keys.{AllBytes, key, key_after, AreRuns, IsKeyedNode, IsEdgeTo, IsParent}
use Rattle.yr_rows.specs.Nodes.{Each}
use Rattle.yr_automaton.specs.Atoms.{word, words_of}
use Rattle.yr_automaton.specs.Prepared.{Prepared}
use Rattle.yr_rows.specs.Words.{OnceIf}
use Rattle.yr_automaton.specs.Automaton.{IsAutomatonOf}
use Rattle.yr_automaton.proofs.SuffixLemmas.{onto, node_of, Links, longest_none, longest_after, chain_counts, times-append, Begins, longer_front, shorter_front}
use Rattle.yr_automaton.proofs.KeyLemmas.{key_onto, key_injective, bytes_onto}
use Rattle.yr_automaton.proofs.ListLemmas.{at_has, has_at, some_inside, get_or_some, segment_at, map_some, some_of_map, some_at, length_mapped}
use Rattle.yr_automaton.proofs.OntoLemmas.{node_word, word_node, length_onto, onto_twice, begins_from_ends, ends_from_begins, ends_take}
use Rattle.yr_automaton.proofs.PrepareLemmas.{word_of, home_at, length_map}
use Rattle.yr_automaton.proofs.KeyedLemmas.{IsKeyed, has_key, of_key}
use Rattle.yr_automaton.proofs.RowsLemmas.{key_pos as made_key_pos, row_at as made_row_at, output_range as made_output_range, keyed as made_keyed, links as made_links, wellformed as made_wellformed}
use Rattle.yr_automaton.proofs.TimesLemmas.{times_none, join_segment, times_segment, times_part, times_targets}

module _ (atoms : List Atom) (keys : List ℕ) (numbered : List (ℕ × ℕ)) (parents edge_starts output_starts : List ℕ) (nodes : List NodeRow) (edges : List EdgeRow)
    (p : Prepared atoms keys numbered)
    (parent_count : length parents + 1 ≡ length keys) (each_parent : Each (IsParent keys) parents)
    (edge_count : length edges + 1 ≡ length keys) (each_edge : Each (IsEdgeTo keys) edges)
    (node_count : length nodes ≡ length keys) (each_node : Each (IsKeyedNode keys edge_starts output_starts) nodes)
    (edge_runs : AreRuns keys parents edge_starts) (output_runs : AreRuns keys (map (λ q. q.0) numbered) output_starts) where
  abbrev outs : List ℕ
  outs = map (λ q. q.1) numbered

  abbrev homes : List ℕ
  homes = map (λ q. q.0) numbered

  abbrev edge : ℕ → ℕ → Option ℕ
  edge = edge_of nodes edges

  abbrev link : ℕ → ℕ
  link = link_of nodes

  abbrev own : ℕ → List ℕ
  own = own_of nodes outs

  key_pos : (m : ℕ) → 0 < m → m < length keys → 0 < get_or keys m 0
  key_pos = made_key_pos atoms keys numbered parents edge_starts output_starts nodes edges p parent_count each_parent edge_count each_edge node_count each_node edge_runs output_runs

  row_at : (n : ℕ) → n < length keys → (row : NodeRow) × (slice_get nodes n ≡ Some row)
  row_at = made_row_at atoms keys numbered parents edge_starts output_starts nodes edges p parent_count each_parent edge_count each_edge node_count each_node edge_runs output_runs

  output_range : (n : ℕ) (row : NodeRow) → slice_get nodes n ≡ Some row
      → (row.first_output ≡ get_or output_starts n 0) × (row.first_output + row.outputs ≡ get_or output_starts (n + 1) 0) × (row.first_output + row.outputs ≤ length outs)
  output_range = made_output_range atoms keys numbered parents edge_starts output_starts nodes edges p parent_count each_parent edge_count each_edge node_count each_node edge_runs output_runs

  keyed : IsKeyed keys edge link
  keyed = made_keyed atoms keys numbered parents edge_starts output_starts nodes edges p parent_count each_parent edge_count each_edge node_count each_node edge_runs output_runs

  links : Links edge link
  links = made_links atoms keys numbered parents edge_starts output_starts nodes edges p parent_count each_parent edge_count each_edge node_count each_node edge_runs output_runs

  -- outputs of one node
  module _ (i : ℕ) (a : Atom) (at : slice_get atoms i ≡ Some a) where
    abbrev ka : ℕ
    ka = key_after 0 (word a)

    a_in : i < length atoms
    a_in = some_inside atoms i a at

    home_is : (j : ℕ) → j < length outs → get_or outs j 0 ≡ i → get_or homes j 0 ≡ ka
    home_is j lt e =
        let h = home_at atoms keys numbered p j (omega (arith, lt, length_map (λ (q : ℕ × ℕ). q.1) numbered)) in
        let same : Some h.0 ≡ Some a = sym h.1 ∙ ap (slice_get atoms) e ∙ at in
        let s : h.0 ≡ a = cc same in
        h.2 ∙ ap (λ (x : Atom). key_after 0 (word x)) s

    own_is : (n : ℕ) (row : NodeRow) → slice_get nodes n ≡ Some row → own n ≡ take row.outputs (drop row.first_output outs)
    own_is n row here = ap (λ o. option_map_or (λ (r : NodeRow). take r.outputs (drop r.first_output outs)) o []) here

    own_has : (n : ℕ) → n < length keys → get_or keys n 0 ≡ ka → times i (own n) ≡ 1
    own_has n lt e =
        let r = row_at n lt in
        let o = output_range n r.0 r.1 in
        ap (times i) (own_is n r.0 r.1) ∙ times_segment i r.0.outputs r.0.first_output outs o.2 (λ j lj hit.
        let in_homes : j < length homes = omega (arith, lj, length_map (λ (q : ℕ × ℕ). q.0) numbered, length_map (λ (q : ℕ × ℕ). q.1) numbered) in
        let w = output_runs.outside n j lt in_homes (home_is j lj hit ∙ sym e) in
        (omega (arith, w.0, o.0), omega (arith, w.1, o.1))) ∙ p.ones i a_in

    own_has_not : (n : ℕ) → n < length keys → get_or keys n 0 ≢ ka → times i (own n) ≡ 0
    own_has_not n lt other =
        let r = row_at n lt in
        let o = output_range n r.0 r.1 in
        ap (times i) (own_is n r.0 r.1) ∙ times_none i (take r.0.outputs (drop r.0.first_output outs)) (λ k lk hit.
        let small : k < r.0.outputs = omega (arith, lk, length-take r.0.outputs (drop r.0.first_output outs)) in
        let j = r.0.first_output + k in
        let lj : j < length outs = omega (arith, small, o.2) in
        let here : get_or outs j 0 ≡ i = sym (segment_at r.0.outputs r.0.first_output outs k 0 small) ∙ hit in
        other (sym (output_runs.inside n j lt (omega (arith, o.0)) (omega (arith, small, o.1))) ∙ home_is j lj here))

    abbrev reversed : List ℕ
    reversed = onto [] (word a)

    bytes : AllBytes reversed
    bytes = bytes_onto [] (word a) tt (p.bytes i a at).0

    key_is : key reversed ≡ ka
    key_is = key_onto [] (word a)

    place : (n : ℕ) × (n < length keys) × (get_or keys n 0 ≡ ka)
    place = let c = p.complete i (length (word a)) a at (omega arith) in
        let h = at_has keys (key_after 0 (take (length (word a)) (word a))) c in
        (h.0, h.1, h.2 ∙ ap (key_after 0) (take_all (length (word a)) (word a) (omega arith)))

    has : (n : ℕ) (r : List ℕ) → node_of edge r ≡ Some n → r ≡ reversed → times i (own n) ≡ 1
    has n r e same = let h = has_key keys edge link keyed r n e in own_has n h.1 (h.2 ∙ ap key same ∙ key_is)

    has_not : (n : ℕ) (r : List ℕ) → node_of edge r ≡ Some n → r ≢ reversed → times i (own n) ≡ 0
    has_not n r e other = let h = has_key keys edge link keyed r n e in
        own_has_not n h.1 (λ same. other (key_injective r reversed h.0 bytes (sym h.2 ∙ same ∙ sym key_is)))

    reports_at : (text xs : List ℕ) (n : ℕ) → Walks edge link 0 text n → (ms : List ℕ) → IsChain link n ms → xs ≡ flat_map own ms → OnceIf (EndsIn text (word a)) (times i xs)
    reports_at text xs n walk ms chain all =
        let l = longest_after edge link links text [] 0 0 n (longest_none edge link) walk in
        let r = onto [] text in
        let c = chain_counts edge link links own i reversed (place.0, of_key keys edge link keyed reversed place.0 bytes place.1 (place.2 ∙ sym key_is)) has has_not ms n (take l.0 r) l.1.is chain in
        let into : Begins r reversed → Begins (take l.0 r) reversed = λ b.
        let shown = of_key keys edge link keyed reversed place.0 bytes place.1 (place.2 ∙ sym key_is) in
        let le = l.1.most (length reversed) place.0 b.0 (ap (node_of edge) b.1 ∙ shown) in
        longer_front edge link r reversed l.0 l.1.within le b in (
          λ ends. ap (times i) all ∙ c.0 (into (begins_from_ends text (word a) ends)),
          λ other. ap (times i) all ∙ c.1 (λ b. other (ends_from_begins text (word a) (shorter_front edge link r reversed l.0 l.1.within b))),
        )

    rows_at : (times i outs ≡ 1) × ((n : ℕ) (w : List ℕ) → path edge 0 w ≡ Some n → OnceIf (w ≡ word a) (times i (own n)))
    rows_at = (
      p.ones i a_in,
      λ n w e.
          let here : node_of edge (onto [] w) ≡ Some n = node_word edge w ∙ e in
          (λ same. has n (onto [] w) here (ap (onto []) same), λ other. has_not n (onto [] w) here (λ same. other (sym (onto_twice w) ∙ ap (onto []) same ∙ onto_twice (word a)))),
    )

  -- the numbers of words
  word_at : (i : ℕ) (w : List ℕ) → slice_get (words_of atoms) i ≡ Some w → (a : Atom) × (slice_get atoms i ≡ Some a) × (word a ≡ w)
  word_at i w at = some_of_map word atoms i w at

  no_own : (i : ℕ) → length atoms ≤ i → (n : ℕ) → times i (own n) ≡ 0
  no_own i le n = go (slice_get nodes n) where
    go : (o : Option NodeRow) → times i (option_map_or (λ (r : NodeRow). take r.outputs (drop r.first_output outs)) o []) ≡ 0
    go None = refl
    go (Some r) = times_part i r.outputs r.first_output outs (p.zeros i le)

  none_along : (i : ℕ) → length atoms ≤ i → (ms : List ℕ) → times i (flat_map own ms) ≡ 0
  none_along i le [] = refl
  none_along i le (m ∷ ms) = times-append i (own m) (flat_map own ms) ∙ omega (arith, no_own i le m, none_along i le ms)

  reports : Reports edge link own (words_of atoms)
  reports text xs n i walk out = elim (cases_lt i (length atoms)) [
    | inl lt ↦
        let a = some_at atoms i lt in
        let there = map_some word atoms i a.0 a.1 in
        let r = reports_at i a.0 a.1 text xs n walk out.0 out.1 out.2 in (
          λ ends.
              let both : Some (word a.0) ≡ Some ends.0 = sym there ∙ ends.1 in
              let same : word a.0 ≡ ends.0 = cc both in
              r.0 (subst (EndsIn text) (sym same) ends.2),
          λ other. r.1 (λ ends. other (word a.0, there, ends)),
        )
    | inr ge ↦ (
      λ ends. let w = word_at i ends.0 ends.1 in absurd (omega (arith, some_inside atoms i w.0 w.1, ge)),
      λ other. ap (times i) out.2 ∙ none_along i ge out.0,
    )
  ]

  pub made : IsAutomatonOf (words_of atoms) (record { nodes = nodes; edges = edges; outputs = outs })
  made = record {
    some = omega (arith, node_count, p.are.some);
    wellformed = made_wellformed atoms keys numbered parents edge_starts output_starts nodes edges p parent_count each_parent edge_count each_edge node_count each_node edge_runs output_runs;
    reports = reports;
    parents = λ n other lt. times_targets 1 edges (λ k e at. (each_edge k e at).1) n (omega (arith, other)) (omega (arith, lt, edge_count, node_count));
    links = λ n w other e.
        let r = onto [] w in
        let s = links.links n r other (node_word edge w ∙ e) in
        let v = onto [] (take s.0 r) in
        let len : length v ≡ s.0 = omega (arith, length_onto [] (take s.0 r), length-take s.0 r, s.1) in (
          v,
          (ends_take w s.0, omega (arith, len, s.1, length_onto [] w)),
          word_node edge (take s.0 r) ∙ s.2,
          λ u m proper word_u.
              let b = begins_from_ends w u proper.0 in
              let lu = length_onto [] u in
              let le = s.3 (length (onto [] u)) m (omega (arith, lu, proper.1, length_onto [] w)) (ap (node_of edge) b.1 ∙ (node_word edge u ∙ word_u)) in
              omega (arith, le, lu, len),
        );
    one_output = λ i. elim (cases_lt i (length atoms)) [ inl lt ↦ omega (arith, p.ones i lt) | inr ge ↦ omega (arith, p.zeros i ge) ];
    each_output = λ i lt. p.ones i (omega (arith, lt, length_words));
    no_output = λ i le. p.zeros i (omega (arith, le, length_words));
    places = λ i n whole w at e.
        let a = word_at i whole at in
        subst (λ x. OnceIf (w ≡ x) (times i (own n))) a.2 ((rows_at i a.0 a.1).1 n w e);
    named = λ n lt.
        let inside : n < length keys = omega (arith, lt, node_count) in
        let w = word_of atoms keys numbered p (get_or keys n 0) (has_at keys n (get_or keys n 0) inside refl) in
        (onto [] w.0, word_node edge w.0 ∙ of_key keys edge link keyed w.0 n w.1 inside (sym w.3));
    prefixes = λ n w other e.
        let h = has_key keys edge link keyed (onto [] w) n (node_word edge w ∙ e) in
        let known = word_of atoms keys numbered p (get_or keys n 0) (has_at keys n (get_or keys n 0) h.1 refl) in
        let same : onto [] w ≡ known.0 = key_injective (onto [] w) known.0 h.0 known.1 (sym h.2 ∙ sym known.3) in
        elim known.4 [
          | inl none ↦ absurd (not_root n h.1 other (sym known.3 ∙ ap key none))
          | inr f ↦
              let is : w ≡ take f.2 (word f.1) = sym (onto_twice w) ∙ ap (onto []) (same ∙ f.5) ∙ onto_twice (take f.2 (word f.1)) in
              let there = map_some word atoms f.0 f.1 f.3 in
              (word f.1, (f.0, some_inside (words_of atoms) f.0 (word f.1) there, get_or_some (words_of atoms) f.0 (word f.1) (word f.1) there), (drop f.2 (word f.1), ap (λ x. x ++ drop f.2 (word f.1)) is ∙ join_segment f.2 (word f.1)))
        ];
  } where
    length_words : length (words_of atoms) ≡ length atoms
    length_words = length_mapped word atoms

    not_root : (n : ℕ) → n < length keys → n ≢ 0 → get_or keys n 0 ≡ 0 → ⊥
    not_root n lt other e = omega (arith, key_pos n (omega (arith, other)) lt, e)
