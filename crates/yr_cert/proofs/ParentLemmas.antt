-- The edges that lead to each node.
use Rattle.std.proofs.Common.{◌≡◌, ◌≢◌, ℕ, suc, ◌+◌, ◌-◌, ◌<◌, ◌≤◌, true, false, List, length, replicate, length-take, length-drop, take, drop, get_or, Option, Some, refl, sym, ap, ◌∙◌, arith}
use Rattle.std.specs.Prelude.{slice_get, slice_set}
use Rattle.std.specs.Option.{option_and_then, option_map_or}
use Rattle.std.proofs.lemmas.List.{length-set, length-replicate}
use Rattle.yr_rows.specs.declared.nodes.NodeRow.{NodeRow}
use Rattle.yr_rows.specs.declared.nodes.EdgeRow.{EdgeRow}
use Rattle.yr_rows.specs.Nodes.{AreWellformed, edges_end, outputs_end, end_before, target_in, edges_at, edge_of, own_of}
use Rattle.yr_rows.specs.Words.{times, HasOneParent}
use Rattle.yr_automaton.proofs.GoodLemmas.{rising_from}
use Rattle.yr_automaton.proofs.ListLemmas.{get_or_some, segment_at, some_at, length_mapped, map_some}
use Rattle.yr_automaton.proofs.RowLemmas.{no_edge, target_found}
use Rattle.yr_cert.specs.Tries.{IsReadable, AreParents, SaysParent, is_one_edge, with_edge, targets_of, nodes_in, edges_in, outputs_in, edge_in}
use Rattle.yr_cert.specs.declared.trie.Trie.{Trie}
use Rattle.yr_cert.specs.declared.parent.Step.{Step}
use Rattle.yr_cert.specs.declared.parent.Parent.{Parent}
use Rattle.yr_cert.specs.declared.parent.Parent.TheVariants.{NoEdge, OneEdge, ManyEdges}
use Rattle.yr_cert.proofs.NotedLemmas.{noted_next, noted_none, noted_all}
use Rattle.yr_cert.proofs.TimesLemmas.{present}
use Rattle.yr_cert.proofs.ShapeLemmas.{own_is}

-- where node n ends, the next one begins
pub end_next : (end : NodeRow → ℕ) (nodes : List NodeRow) (n : ℕ) (row : NodeRow) → slice_get nodes n ≡ Some row → end_before end nodes (n + 1) ≡ end row
end_next end nodes n row at =
    let one : n + 1 ≡ suc n = omega arith in
    ap (end_before end nodes) one ∙ ap (λ o. option_map_or end o 0) at

module _ (nodes : List NodeRow) (edges : List EdgeRow) (outs : List ℕ) (some : 0 < length nodes) (formed : AreWellformed nodes edges outs) where
  -- the last node ends with its section
  pub edges_done : end_before edges_end nodes (length nodes) ≡ length edges
  edges_done =
      let n = length nodes - 1 in
      let last : n + 1 ≡ length nodes = omega (arith, some) in
      let row = some_at nodes n (omega (arith, some)) in
      ap (end_before edges_end nodes) (sym last) ∙ (end_next edges_end nodes n row.0 row.1 ∙ (formed.each_node n row.0 row.1).edges_last last)

  pub outputs_done : end_before outputs_end nodes (length nodes) ≡ length outs
  outputs_done =
      let n = length nodes - 1 in
      let last : n + 1 ≡ length nodes = omega (arith, some) in
      let row = some_at nodes n (omega (arith, some)) in
      ap (end_before outputs_end nodes) (sym last) ∙ (end_next outputs_end nodes n row.0 row.1 ∙ (formed.each_node n row.0 row.1).outputs_last last)

  -- an edge in a node's range is the node's
  pub edge_here : (n : ℕ) (row : NodeRow) (k : ℕ) (e : EdgeRow) → slice_get nodes n ≡ Some row → row.first_edge ≤ k → k < edges_end row → slice_get edges k ≡ Some e
      → edge_of nodes edges n e.byte ≡ Some e.target
  edge_here n row k e at low high here =
      let is = formed.each_node n row at in
      let es = edges_at edges row in
      let j = k - row.first_edge in
      let small : j < row.edges = omega (arith, low, high) in
      let inside : j < length es = omega (arith, small, length-take row.edges (drop row.first_edge edges), length-drop row.first_edge edges, is.edges_inside) in
      let place : row.first_edge + j ≡ k = omega (arith, low) in
      let same : get_or es j no_edge ≡ e = segment_at row.edges row.first_edge edges j no_edge small ∙ (ap (λ i. get_or edges i no_edge) place ∙ get_or_some edges k no_edge e here) in
      let found : target_in es e.byte ≡ Some (get_or es j no_edge).target = target_found es j e.byte (rising_from es is.bytes_rise) inside (ap (λ (x : EdgeRow). x.byte) same) in
      ap (option_and_then (λ (r : NodeRow). target_in (edges_at edges r) e.byte)) at ∙ (found ∙ ap (λ (x : EdgeRow). Some x.target) same)

  -- an output in a node's range is the node's
  pub output_here : (n : ℕ) (row : NodeRow) (k s : ℕ) → slice_get nodes n ≡ Some row → row.first_output ≤ k → k < outputs_end row → slice_get outs k ≡ Some s
      → 0 < times s (own_of nodes outs n)
  output_here n row k s at low high here =
      let is = formed.each_node n row at in
      let mine = take row.outputs (drop row.first_output outs) in
      let j = k - row.first_output in
      let small : j < row.outputs = omega (arith, low, high) in
      let inside : j < length mine = omega (arith, small, length-take row.outputs (drop row.first_output outs), length-drop row.first_output outs, is.outputs_inside) in
      let place : row.first_output + j ≡ k = omega (arith, low) in
      let same : get_or mine j 0 ≡ s = segment_at row.outputs row.first_output outs j 0 small ∙ (ap (λ i. get_or outs i 0) place ∙ get_or_some outs k 0 s here) in
      omega (arith, present s mine j inside same, ap (times s) (own_is nodes edges outs some formed n row at))

-- one edge more
parent_more : (edge : ℕ → ℕ → Option ℕ) (m c : ℕ) (parent : Parent) (step : Step) → edge step.source step.byte ≡ Some m → SaysParent edge m c parent → SaysParent edge m (c + 1) (with_edge parent step)
parent_more edge m c NoEdge step leads says = (omega (arith, says), leads)
parent_more edge m c (OneEdge other) step leads says = omega (arith, says.0)
parent_more edge m c ManyEdges step leads says = omega (arith, says)

pub one_edge : (edge : ℕ → ℕ → Option ℕ) (m c : ℕ) (parent : Parent) → SaysParent edge m c parent → is_one_edge parent ≡ true → c ≡ 1
one_edge edge m c NoEdge says e = absurd (cc e)
one_edge edge m c (OneEdge step) says e = says.0
one_edge edge m c ManyEdges says e = absurd (cc e)

pub not_one_edge : (edge : ℕ → ℕ → Option ℕ) (m c : ℕ) (parent : Parent) → SaysParent edge m c parent → is_one_edge parent ≡ false → c ≢ 1
not_one_edge edge m c NoEdge says e one = omega (arith, says, one)
not_one_edge edge m c (OneEdge step) says e one = absurd (cc e)
not_one_edge edge m c ManyEdges says e one = omega (arith, says, one)

pub one_is : (parent : Parent) → is_one_edge parent ≡ true → (step : Step) × (parent ≡ OneEdge step)
one_is NoEdge e = absurd (cc e)
one_is (OneEdge step) e = (step, refl)
one_is ManyEdges e = absurd (cc e)

module _ (trie : Trie) (readable : IsReadable trie) where
  -- one edge more of a node is noted
  pub parents_next : (n : ℕ) (row : NodeRow) (k : ℕ) (e : EdgeRow) (parents : List Parent) (old : Parent) (step : Step) → slice_get (nodes_in trie) n ≡ Some row
      → row.first_edge ≤ k → k < edges_end row → slice_get (edges_in trie) k ≡ Some e → step.source ≡ n → step.byte ≡ e.byte
      → AreParents trie k parents → slice_get parents e.target ≡ Some old → AreParents trie (k + 1) (slice_set parents e.target (with_edge old step))
  parents_next n row k e parents old step at low high here source byte are is =
      let leads : edge_in trie step.source step.byte ≡ Some e.target =
      ap (λ i. edge_in trie i step.byte) source ∙ (ap (edge_in trie n) byte ∙ edge_here (nodes_in trie) (edges_in trie) (outputs_in trie) readable.some readable.formed n row k e at low high here) in
      record {
        long = length-set parents e.target (with_edge old step) ∙ are.long;
        each = noted_next (SaysParent (edge_in trie)) (targets_of (edges_in trie)) k e.target parents old (with_edge old step) are.each (map_some (λ (x : EdgeRow). x.target) (edges_in trie) k e here) is
            (λ c. parent_more (edge_in trie) e.target c old step leads);
      }

  -- no edge is noted yet
  pub parents_none : (n : ℕ) → n ≡ trie.nodes → AreParents trie 0 (replicate n NoEdge)
  parents_none n e = record {
    long = length-replicate n NoEdge ∙ (e ∙ readable.count);
    each = noted_none (SaysParent (edge_in trie)) (targets_of (edges_in trie)) n NoEdge (λ m. refl);
  }

  module _ (parents : List Parent) (are : AreParents trie (length (edges_in trie)) parents) where
    -- what is noted of all edges
    pub says_all : (m : ℕ) (parent : Parent) → slice_get parents m ≡ Some parent → SaysParent (edge_in trie) m (times m (targets_of (edges_in trie))) parent
    says_all = noted_all (SaysParent (edge_in trie)) (targets_of (edges_in trie)) (length (edges_in trie)) parents are.each (omega (arith, length_mapped (λ (x : EdgeRow). x.target) (edges_in trie)))

    -- the edge that is noted of a node with one parent
    pub step_is : HasOneParent (length (nodes_in trie)) (edges_in trie) → (n : ℕ) (step : Step) → slice_get parents n ≡ Some (OneEdge step) → edge_in trie step.source step.byte ≡ Some n
    step_is one n step at = (says_all n (OneEdge step) at).1

    pub is_one : HasOneParent (length (nodes_in trie)) (edges_in trie) → (n : ℕ) (parent : Parent) → n ≢ 0 → n < length (nodes_in trie) → slice_get parents n ≡ Some parent → is_one_edge parent ≡ true
    is_one one n parent other lt at = go parent (says_all n parent at) (one n other lt) where
      go : (p : Parent) → SaysParent (edge_in trie) n (times n (targets_of (edges_in trie))) p → times n (targets_of (edges_in trie)) ≡ 1 → is_one_edge p ≡ true
      go NoEdge says e = absurd (omega (arith, says, e))
      go (OneEdge step) says e = refl
      go ManyEdges says e = absurd (omega (arith, says, e))

    -- a node with one parent has an edge noted
    pub step_of : HasOneParent (length (nodes_in trie)) (edges_in trie) → (n : ℕ) → n ≢ 0 → n < length (nodes_in trie) → (step : Step) × (slice_get parents n ≡ Some (OneEdge step))
    step_of one n other lt =
        let p = some_at parents n (omega (arith, lt, are.long)) in
        let s = one_is p.0 (is_one one n p.0 other lt p.1) in
        (s.0, p.1 ∙ ap Some s.1)
