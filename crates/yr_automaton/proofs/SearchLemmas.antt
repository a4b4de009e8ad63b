-- The halving of a node's edges.
use Rattle.std.proofs.Common.{◌≡◌, ◌≢◌, ℕ, ◌+◌, ◌-◌, ◌<◌, ◌≤◌, inl, inr, List, length, length-take, length-drop, take, drop, get_or, Some, None, sym, ap, ◌∙◌, arith}
use Rattle.std.specs.Prelude.{slice_get}
use Rattle.std.proofs.lemmas.Bool.{cases_lt}
use Rattle.yr_rows.specs.declared.nodes.NodeRow.{NodeRow}
use Rattle.yr_rows.specs.declared.nodes.EdgeRow.{EdgeRow}
use Rattle.yr_rows.specs.Nodes.{target_in, edges_at, edges_end, BytesRise}
use Rattle.yr_automaton.specs.Search.{AreLessBefore, AreGreaterFrom}
use Rattle.yr_automaton.proofs.GoodLemmas.{rising_from}
use Rattle.yr_automaton.proofs.ListLemmas.{get_some, get_or_some, some_inside, segment_at, order3}
use Rattle.yr_automaton.proofs.RowLemmas.{no_edge, target_found, target_none}

-- an item of a segment stands in the list
pub segment_put : {X : Type 0} (c f : ℕ) (xs : List X) (k : ℕ) (v : X) → k < c → slice_get xs (f + k) ≡ Some v → slice_get (take c (drop f xs)) k ≡ Some v
segment_put c f xs k v lt at =
    let inside = some_inside xs (f + k) v at in
    let fits : k < length (take c (drop f xs)) = omega (arith, length-take c (drop f xs), length-drop f xs, inside, lt) in
    get_some (take c (drop f xs)) k v fits ∙ ap Some (segment_at c f xs k v lt ∙ get_or_some xs (f + k) v v at)

module _ (edges : List EdgeRow) (row : NodeRow) (byte : ℕ) (rise : BytesRise (edges_at edges row)) where
  -- the edge at a place of the node's range
  at_place : (place : ℕ) (e : EdgeRow) → row.first_edge ≤ place → place < edges_end row → slice_get edges place ≡ Some e → slice_get (edges_at edges row) (place - row.first_edge) ≡ Some e
  at_place place e from to at =
      let back : row.first_edge + (place - row.first_edge) ≡ place = omega arith in
      segment_put row.edges row.first_edge edges (place - row.first_edge) e (omega arith) (ap (slice_get edges) back ∙ at)

  same_edge : (k j : ℕ) (d e : EdgeRow) → k ≡ j → slice_get (edges_at edges row) k ≡ Some d → slice_get (edges_at edges row) j ≡ Some e → d.byte ≡ e.byte
  same_edge k j d e same here there =
      let both : Some d ≡ Some e = sym here ∙ ap (slice_get (edges_at edges row)) same ∙ there in
      let one : d ≡ e = cc both in
      ap (λ (x : EdgeRow). x.byte) one

  -- an edge whose byte is not greater: the bytes before it are less
  pub less_before : (middle : ℕ) (e : EdgeRow) → row.first_edge ≤ middle → middle < edges_end row → slice_get edges middle ≡ Some e → e.byte ≤ byte
      → AreLessBefore edges row byte middle
  less_before middle e from to at le k d here lt =
      let up = rise k (middle - row.first_edge) d e (omega (arith, lt)) here (at_place middle e from to at) in
      omega (arith, up, le)

  -- an edge whose byte is greater: the bytes from it on are greater
  pub greater_from : (middle : ℕ) (e : EdgeRow) → row.first_edge ≤ middle → middle < edges_end row → slice_get edges middle ≡ Some e → byte < e.byte
      → AreGreaterFrom edges row byte middle
  greater_from middle e from to at less k d here le = elim (cases_lt (middle - row.first_edge) k) [
    | inl more ↦ let up = rise (middle - row.first_edge) k e d more (at_place middle e from to at) here in omega (arith, up, less)
    | inr not ↦ let same = same_edge k (middle - row.first_edge) d e (omega (arith, not, le)) here (at_place middle e from to at) in omega (arith, same, less)
  ]

  -- the edge with the byte is found
  pub found : (place : ℕ) (e : EdgeRow) → row.first_edge ≤ place → place < edges_end row → slice_get edges place ≡ Some e → e.byte ≡ byte → target_in (edges_at edges row) byte ≡ Some e.target
  found place e from to at same =
      let es = edges_at edges row in
      let k = place - row.first_edge in
      let here = at_place place e from to at in
      let is = get_or_some es k no_edge e here in
      target_found es k byte (rising_from es rise) (some_inside es k e here) (ap (λ (x : EdgeRow). x.byte) is ∙ same) ∙ ap Some (ap (λ (x : EdgeRow). x.target) is)

  -- no edge has it where the one that could has another
  pub missing : (place : ℕ) (e : EdgeRow) → row.first_edge ≤ place → place < edges_end row → slice_get edges place ≡ Some e → e.byte ≢ byte
      → AreLessBefore edges row byte place → AreGreaterFrom edges row byte (place + 1)
      → target_in (edges_at edges row) byte ≡ None
  missing place e from to at other before after = target_none (edges_at edges row) byte none where
    none : (k : ℕ) → k < length (edges_at edges row) → (get_or (edges_at edges row) k no_edge).byte ≢ byte
    none k lt same =
        let d = get_or (edges_at edges row) k no_edge in
        let here = get_some (edges_at edges row) k no_edge lt in
        elim (order3 (row.first_edge + k) place) [
          | inl less ↦ omega (arith, same, before k d here less)
          | inr o ↦ elim o [
            | inl equal ↦ other (sym (same_edge k (place - row.first_edge) d e (omega (arith, equal)) here (at_place place e from to at)) ∙ same)
            | inr more ↦ omega (arith, same, after k d here (omega (arith, more)))
          ]
        ]
