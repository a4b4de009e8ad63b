-- The rows that were made have the edges and links of their keys, and are wellformed.
use Rattle.std.proofs.Common.{◌≡◌, ℕ, zero, suc, ◌+◌, ◌-◌, ◌*◌, ◌/◌, ◌%◌, ◌<◌, ◌≤◌, inl, inr, List, [], ◌∷◌, map, length, length-take, take, drop, length-drop, get_or, Option, Some, refl, sym, ap, ◌∙◌, subst, arith}
use Rattle.std.specs.Prelude.{slice_get}
use Rattle.std.specs.Option.{option_and_then, option_map_or}
use Rattle.std.proofs.lemmas.Bool.{cases_lt}
use Rattle.std.proofs.lemmas.List.{get_or_default}
use Rattle.yr_rows.specs.declared.nodes.NodeRow.{NodeRow}
use Rattle.yr_rows.specs.declared.nodes.EdgeRow.{EdgeRow}
use Rattle.yr_base.specs.declared.atom.Atom.{Atom}
use Rattle.yr_rows.specs.Nodes.{AreWellformed, edges_end, outputs_end, end_before, target_in, edges_at, edge_of, link_of, own_of}
use Rattle.yr_automaton.proofs.GoodLemmas.{Rising, rise_from}
use Rattle.yr_automaton.specs.Keys.{AllBytes, key, IsLongestIn, AreRuns, IsKeyedNode, IsEdgeTo, IsParent}
use Rattle.yr_rows.specs.Nodes.{Each}
use Rattle.yr_automaton.specs.Prepared.{Prepared}
use Rattle.yr_automaton.proofs.SuffixLemmas.{Links}
use Rattle.yr_automaton.proofs.KeyLemmas.{whole_is, parent_is, byte_is, bytes_take}
use Rattle.yr_automaton.proofs.ListLemmas.{at_has, has_at, get_some, some_inside, get_or_some, segment_at}
use Rattle.yr_automaton.proofs.RowLemmas.{no_edge, no_node, target_found, target_at}
use Rattle.yr_automaton.proofs.PrepareLemmas.{closed, word_of, length_map}
use Rattle.yr_automaton.proofs.KeyedLemmas.{IsKeyed, keyed_links}

module _ (atoms : List Atom) (keys : List ℕ) (numbered : List (ℕ × ℕ)) (parents edge_starts output_starts : List ℕ) (nodes : List NodeRow) (edges : List EdgeRow)
    (p : Prepared atoms keys numbered)
    (parent_count : length parents + 1 ≡ length keys) (each_parent : Each (IsParent keys) parents)
    (edge_count : length edges + 1 ≡ length keys) (each_edge : Each (IsEdgeTo keys) edges)
    (node_count : length nodes ≡ length keys) (each_node : Each (IsKeyedNode keys edge_starts output_starts) nodes)
    (edge_runs : AreRuns keys parents edge_starts) (output_runs : AreRuns keys (map (λ q. q.0) numbered) output_starts) where
  abbrev pub outs : List ℕ
  outs = map (λ q. q.1) numbered

  abbrev pub homes : List ℕ
  homes = map (λ q. q.0) numbered

  pub key_pos : (m : ℕ) → 0 < m → m < length keys → 0 < get_or keys m 0
  key_pos m pos lt = omega (arith, p.are.rises 0 m pos lt, p.are.first)

  parent_at : (j : ℕ) → j + 1 < length keys → get_or parents j 0 ≡ (get_or keys (j + 1) 0 - 1) / 256
  parent_at j lt = each_parent j (get_or parents j 0) (get_some parents j 0 (omega (arith, lt, parent_count)))

  edge_at : (j : ℕ) → j + 1 < length keys → IsEdgeTo keys j (get_or edges j no_edge)
  edge_at j lt = each_edge j (get_or edges j no_edge) (get_some edges j no_edge (omega (arith, lt, edge_count)))

  -- one node's edges
  module _ (n : ℕ) (row : NodeRow) (at : slice_get nodes n ≡ Some row) where
    is : IsKeyedNode keys edge_starts output_starts n row
    is = each_node n row at

    n_in : n < length keys
    n_in = omega (arith, some_inside nodes n row at, node_count)

    edge_range : (row.first_edge ≡ get_or edge_starts n 0) × (row.first_edge + row.edges ≡ get_or edge_starts (n + 1) 0) × (row.first_edge + row.edges ≤ length edges)
    edge_range = let total : row.first_edge + row.edges ≡ get_or edge_starts (n + 1) 0 = omega (arith, is.first_edge, is.edges, edge_runs.rise n n_in) in
        (is.first_edge, total, omega (arith, total, edge_runs.within (n + 1) (omega (arith, n_in)), parent_count, edge_count))

    pub output_range : (row.first_output ≡ get_or output_starts n 0) × (row.first_output + row.outputs ≡ get_or output_starts (n + 1) 0) × (row.first_output + row.outputs ≤ length outs)
    output_range = let total : row.first_output + row.outputs ≡ get_or output_starts (n + 1) 0 = omega (arith, is.first_output, is.outputs, output_runs.rise n n_in) in
        (is.first_output, total, omega (arith, total, output_runs.within (n + 1) (omega (arith, n_in)), length_map (λ (q : ℕ × ℕ). q.0) numbered, length_map (λ (q : ℕ × ℕ). q.1) numbered))

    -- the edge at a place of the node's run
    run_edge : (k : ℕ) → k < row.edges → (get_or (edges_at edges row) k no_edge ≡ get_or edges (row.first_edge + k) no_edge) × (row.first_edge + k + 1 < length keys)
        × (get_or keys (row.first_edge + k + 1) 0 ≡ get_or keys n 0 * 256 + (get_or edges (row.first_edge + k) no_edge).byte + 1) × ((get_or edges (row.first_edge + k) no_edge).byte < 256)
    run_edge k lt =
        let j = row.first_edge + k in
        let inside : j + 1 < length keys = omega (arith, lt, edge_range.2, edge_count) in
        let x = get_or keys (j + 1) 0 in
        let home : get_or parents j 0 ≡ get_or keys n 0 = edge_runs.inside n j n_in (omega (arith, edge_range.0)) (omega (arith, edge_range.1, lt)) in
        let pos : 0 < x = key_pos (j + 1) (omega arith) inside in
        let parent : (x - 1) / 256 ≡ get_or keys n 0 = sym (parent_at j inside) ∙ home in
        let byte : (get_or edges j no_edge).byte ≡ (x - 1) % 256 = (edge_at j inside).0 in
        (segment_at row.edges row.first_edge edges k no_edge lt, inside, omega (arith, whole_is x pos, parent, byte), omega (arith, byte))

    edge_length : length (edges_at edges row) ≡ row.edges
    edge_length = omega (arith, length-take row.edges (drop row.first_edge edges), length-drop row.first_edge edges, edge_range.2)

    bytes_rise : Rising (edges_at edges row)
    bytes_rise i j d less lt =
        let lj : j < row.edges = omega (arith, lt, edge_length) in
        let a = run_edge i (omega (arith, less, lj)) in
        let b = run_edge j lj in
        let up = p.are.rises (row.first_edge + i + 1) (row.first_edge + j + 1) (omega (arith, less)) b.1 in
        omega (
          arith,
          a.2,
          b.2,
          up,
          ap (λ (e : EdgeRow). e.byte) a.0,
          ap (λ (e : EdgeRow). e.byte) b.0,
          ap (λ (e : EdgeRow). e.byte) (get_or_default (edges_at edges row) i d no_edge (omega (arith, less, lt))),
          ap (λ (e : EdgeRow). e.byte) (get_or_default (edges_at edges row) j d no_edge lt),
        )

    edge_to : (b m : ℕ) → target_in (edges_at edges row) b ≡ Some m → (b < 256) × (m < length keys) × (get_or keys m 0 ≡ get_or keys n 0 * 256 + b + 1)
    edge_to b m e =
        let f = target_at (edges_at edges row) b m e in
        let r = run_edge f.0 (omega (arith, f.1, edge_length)) in
        let byte : (get_or edges (row.first_edge + f.0) no_edge).byte ≡ b = sym (ap (λ (e : EdgeRow). e.byte) r.0) ∙ f.3 in
        let target : m ≡ row.first_edge + f.0 + 1 = sym f.2 ∙ ap (λ (e : EdgeRow). e.target) r.0 ∙ (edge_at (row.first_edge + f.0) r.1).1 in
        (omega (arith, r.3, byte), omega (arith, target, r.1), ap (λ i. get_or keys i 0) target ∙ r.2 ∙ ap (λ i. get_or keys n 0 * 256 + i + 1) byte)

    edge_from : (b m : ℕ) → b < 256 → m < length keys → get_or keys m 0 ≡ get_or keys n 0 * 256 + b + 1 → target_in (edges_at edges row) b ≡ Some m
    edge_from b m small inside e =
        let pos : 0 < m = elim (cases_lt 0 m) [ inl lt ↦ lt | inr ge ↦ absurd (omega (arith, e, p.are.first, ap (λ i. get_or keys i 0) (none m ge))) ] in
        let j = m - 1 in
        let back : j + 1 ≡ m = omega (arith, pos) in
        let lt : j + 1 < length keys = omega (arith, back, inside) in
        let at_m : get_or keys (j + 1) 0 ≡ get_or keys n 0 * 256 + b + 1 = ap (λ i. get_or keys i 0) back ∙ e in
        let home : get_or parents j 0 ≡ get_or keys n 0 = parent_at j lt ∙ ap (λ x. (x - 1) / 256) at_m ∙ parent_is (get_or keys n 0) b small in
        let o = edge_runs.outside n j n_in (omega (arith, lt, parent_count)) home in
        let k = j - row.first_edge in
        let place : row.first_edge + k ≡ j = omega (arith, o.0, edge_range.0) in
        let lk : k < row.edges = omega (arith, place, o.1, edge_range.1) in
        let r = run_edge k lk in
        let q = edge_at j lt in
        let same : get_or (edges_at edges row) k no_edge ≡ get_or edges j no_edge = r.0 ∙ ap (λ i. get_or edges i no_edge) place in
        let byte : (get_or (edges_at edges row) k no_edge).byte ≡ b = ap (λ (e : EdgeRow). e.byte) same ∙ q.0 ∙ ap (λ x. (x - 1) % 256) at_m ∙ byte_is (get_or keys n 0) b small in
        target_found (edges_at edges row) k b bytes_rise (omega (arith, lk, edge_length)) byte ∙ ap Some (ap (λ (e : EdgeRow). e.target) same ∙ q.1 ∙ back) where
          none : (m : ℕ) → m ≤ 0 → m ≡ 0
          none m le = omega (arith, le)

  abbrev pub edge : ℕ → ℕ → Option ℕ
  edge = edge_of nodes edges

  abbrev pub link : ℕ → ℕ
  link = link_of nodes

  abbrev pub own : ℕ → List ℕ
  own = own_of nodes outs

  pub row_at : (n : ℕ) → n < length keys → (row : NodeRow) × (slice_get nodes n ≡ Some row)
  row_at n lt = (get_or nodes n no_node, get_some nodes n no_node (omega (arith, lt, node_count)))

  edge_is : (n b : ℕ) (row : NodeRow) → slice_get nodes n ≡ Some row → edge n b ≡ target_in (edges_at edges row) b
  edge_is n b row at = ap (option_and_then (λ (r : NodeRow). target_in (edges_at edges r) b)) at

  link_is : (n : ℕ) (row : NodeRow) → slice_get nodes n ≡ Some row → link n ≡ row.failure
  link_is n row at = ap (λ o. option_map_or (λ (r : NodeRow). r.failure) o 0) at

  pub keyed : IsKeyed keys edge link
  keyed = record {
    are = p.are;
    closed = λ n q b lt small e. at_has keys q (closed atoms keys numbered p (get_or keys n 0) q b (has_at keys n (get_or keys n 0) lt refl) small e);
    to = λ n b m lt e. let r = row_at n lt in edge_to n r.0 r.1 b m (sym (edge_is n b r.0 r.1) ∙ e);
    from = λ n b m lt small inside e. let r = row_at n lt in edge_is n b r.0 r.1 ∙ edge_from n r.0 r.1 b m small inside e;
    fails = λ n lt other.
        let r = row_at n lt in
        let i = each_node n r.0 r.1 in
        let l = link_is n r.0 r.1 in
        (omega (arith, l, i.below other, lt), subst (IsLongestIn keys (get_or keys n 0)) (sym l) (i.fails other));
  }

  pub links : Links edge link
  links = keyed_links keys edge link keyed

  depth_is : (n : ℕ) (row : NodeRow) → slice_get nodes n ≡ Some row → (r : List ℕ) × AllBytes r × (length r ≤ 4) × (key r ≡ get_or keys n 0) × (row.depth ≡ length r)
  depth_is n row at =
      let w = word_of atoms keys numbered p (get_or keys n 0) (has_at keys n (get_or keys n 0) (n_in n row at) refl) in
      (w.0, w.1, w.2, w.3, (each_node n row at).depth w.0 w.1 w.3)

  -- where a run begins is where the one before ends
  begins : (starts : List ℕ) (first end : NodeRow → ℕ) → ((n : ℕ) (row : NodeRow) → slice_get nodes n ≡ Some row → first row ≡ get_or starts n 0)
      → ((n : ℕ) (row : NodeRow) → slice_get nodes n ≡ Some row → end row ≡ get_or starts (n + 1) 0) → get_or starts 0 0 ≡ 0
      → (n : ℕ) (row : NodeRow) → slice_get nodes n ≡ Some row → first row ≡ end_before end nodes n
  begins starts first end begin stop zero_first zero row at = begin 0 row at ∙ zero_first
  begins starts first end begin stop zero_first (suc n) row at =
      let r = row_at n (omega (arith, n_in (suc n) row at)) in
      let next : n + 1 ≡ suc n = omega arith in
      begin (suc n) row at ∙ sym (ap (λ i. get_or starts i 0) next) ∙ sym (stop n r.0 r.1) ∙ sym (ap (λ o. option_map_or end o 0) r.1)

  edge_is_at : (n : ℕ) (row : NodeRow) (at : slice_get nodes n ≡ Some row) (k : ℕ) (e : EdgeRow) → slice_get (edges_at edges row) k ≡ Some e
      → (row.first_edge + k + 1 < length keys) × (e.target ≡ row.first_edge + k + 1) × (get_or keys e.target 0 ≡ get_or keys n 0 * 256 + e.byte + 1) × (e.byte < 256)
  edge_is_at n row at k e here =
      let lt : k < row.edges = omega (arith, some_inside (edges_at edges row) k e here, edge_length n row at) in
      let r = run_edge n row at k lt in
      let j = row.first_edge + k in
      let same : get_or edges j no_edge ≡ e = sym r.0 ∙ get_or_some (edges_at edges row) k no_edge e here in
      let target : e.target ≡ j + 1 = sym (ap (λ (x : EdgeRow). x.target) same) ∙ (edge_at j r.1).1 in
      let byte : (get_or edges j no_edge).byte ≡ e.byte = ap (λ (x : EdgeRow). x.byte) same in
      (r.1, target, ap (λ i. get_or keys i 0) target ∙ (r.2 ∙ ap (λ i. get_or keys n 0 * 256 + i + 1) byte), omega (arith, r.3, byte))

  pub wellformed : AreWellformed nodes edges outs
  wellformed = record {
    each_node = λ n row at. record {
      edges_follow = begins edge_starts (λ r. r.first_edge) edges_end (λ m r h. (edge_range m r h).0) (λ m r h. (edge_range m r h).1) edge_runs.first n row at;
      outputs_follow = begins output_starts (λ r. r.first_output) outputs_end (λ m r h. (output_range m r h).0) (λ m r h. (output_range m r h).1) output_runs.first n row at;
      edges_inside = (edge_range n row at).2;
      outputs_inside = (output_range n row at).2;
      edges_last = λ last. (edge_range n row at).1 ∙ ap (λ i. get_or edge_starts i 0) (last ∙ node_count) ∙ edge_runs.last ∙ omega (arith, parent_count, edge_count);
      outputs_last = λ last. (output_range n row at).1 ∙ ap (λ i. get_or output_starts i 0) (last ∙ node_count) ∙ output_runs.last ∙ omega (arith, length_map (λ (q : ℕ × ℕ). q.0) numbered, length_map (λ (q : ℕ × ℕ). q.1) numbered);
      bytes_rise = rise_from (edges_at edges row) (bytes_rise n row at);
      low = let d = depth_is n row at in omega (arith, d.4, d.2);
      root = λ z. ((each_node n row at).depth [] tt (sym (ap (λ i. get_or keys i 0) z ∙ p.are.first)), (each_node n row at).root z);
      deep = λ other. let d = depth_is n row at in omega (arith, d.4, not_empty d.0 (omega (arith, d.3, key_pos n (omega (arith, other)) (n_in n row at))));
      below = (each_node n row at).below;
      falls = λ other up above.
          let d = depth_is n row at in
          let s = (each_node n row at).fails other d.0 d.1 d.3 in
          let shorter = (each_node row.failure up above).depth (take s.0 d.0) (bytes_take s.0 d.0 d.1) (sym s.2) in
          omega (arith, d.4, shorter, length-take s.0 d.0, s.1);
      deeper = λ k e here to there.
          let d = depth_is n row at in
          let x = edge_is_at n row at k e here in
          let longer = (each_node e.target to there).depth (e.byte ∷ d.0) (x.3, d.1) (ap (λ i. i * 256 + e.byte + 1) d.3 ∙ sym x.2) in
          omega (arith, longer, d.4);
    };
    each_edge = λ k e here.
        let is = each_edge k e here in
        (omega (arith, is.0), omega (arith, is.1, some_inside edges k e here, edge_count, node_count));
  } where
    not_empty : (r : List ℕ) → 0 < key r → 0 < length r
    not_empty [] pos = absurd (omega (arith, pos))
    not_empty (b ∷ r) pos = omega arith
