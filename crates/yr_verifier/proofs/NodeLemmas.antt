-- Nodes of the automaton, one after another.
use Rattle.std.proofs.Common.{◌≡◌, ℕ, ◌+◌, ◌-◌, ◌<◌, ◌≤◌, ◌⊎◌, inl, inr, ⊎_elim, List, length, take, drop, Some, sym, ap, ◌∙◌, subst, arith}
use Rattle.std.specs.Prelude.{slice_get}
use Rattle.std.proofs.lemmas.Option.{slice_get_past, slice_get_within}
use Rattle.yr_rows.specs.declared.nodes.NodeRow.{NodeRow}
use Rattle.yr_rows.specs.declared.nodes.EdgeRow.{EdgeRow}
use Rattle.yr_rows.specs.Nodes.{BytesRise, edges_at}
use Rattle.yr_image.specs.Image.{Image}
use Rattle.yr_machine.specs.Automaton.{IsNode, NodePasses}
use Rattle.yr_verifier.proofs.RangeLemmas.{range_place, range_length}
use Rattle.yr_verifier.specs.Nodes.{HasRanges, HasDepth, AllLeadDeeper, HaveAtoms}

module _ (image : Image) where
  pub node_here : (n : ℕ) (row : NodeRow) → slice_get image.nodes n ≡ Some row → IsNode image n row → NodePasses image n
  node_here n row at good other there = let is : row ≡ other = cc (at, there) in subst (IsNode image n) is good

  pub node_beyond : (n : ℕ) → length image.nodes ≤ n → NodePasses image n
  node_beyond n le row at = let none = slice_get_past image.nodes n le in cc (none, at)

  pub parts_node : (n : ℕ) (row : NodeRow) → HasRanges image n row → HasDepth image n row → BytesRise (edges_at image.edges row)
      → AllLeadDeeper image row.depth (edges_at image.edges row) → HaveAtoms image row.depth (take row.outputs (drop row.first_output image.outputs)) → IsNode image n row
  parts_node n row ranges depth rise deeper atoms = record {
    wellformed = record {
      edges_follow = ranges.edges_follow;
      outputs_follow = ranges.outputs_follow;
      edges_inside = ranges.edges_inside;
      outputs_inside = ranges.outputs_inside;
      edges_last = ranges.edges_last;
      outputs_last = ranges.outputs_last;
      bytes_rise = rise;
      low = depth.low;
      root = depth.root;
      deep = depth.deep;
      below = depth.below;
      falls = depth.falls;
      deeper = deeper;
    };
    atoms = atoms;
  }

  pub node_ranges : (n : ℕ) (row : NodeRow) → IsNode image n row → HasRanges image n row
  node_ranges n row good =
      let w = good.wellformed in
      record {
        edges_follow = w.edges_follow;
        outputs_follow = w.outputs_follow;
        edges_inside = w.edges_inside;
        outputs_inside = w.outputs_inside;
        edges_last = w.edges_last;
        outputs_last = w.outputs_last;
      }

  pub node_depth : (n : ℕ) (row : NodeRow) → IsNode image n row → HasDepth image n row
  node_depth n row good =
      let w = good.wellformed in
      record { low = w.low; root = w.root; deep = w.deep; below = w.below; falls = w.falls }

-- what holds at each place of a range holds of its rows, and the other way round
module _ {A : Type 0} (first count : ℕ) (rows : List A) (inside : first + count ≤ length rows) where
  pub in_range : (k : ℕ) (x : A) → slice_get (take count (drop first rows)) k ≡ Some x → (k < count) × (slice_get rows (first + k) ≡ Some x)
  in_range k x at =
      let lt : k < count = omega (arith, slice_get_within (take count (drop first rows)) k x at, range_length first count rows inside) in
      (lt, sym (range_place k first count rows lt) ∙ at)

  pub of_range : (k : ℕ) (x : A) → k < count → slice_get rows (first + k) ≡ Some x → slice_get (take count (drop first rows)) k ≡ Some x
  of_range k x lt at = range_place k first count rows lt ∙ at

-- one edge more
pub rise_more : (edges : List EdgeRow) (first k : ℕ) (low high : EdgeRow) → 0 < k → slice_get edges (first + k - 1) ≡ Some low → slice_get edges (first + k) ≡ Some high → low.byte < high.byte
    → ((i j : ℕ) (d e : EdgeRow) → i < j → j < k → slice_get edges (first + i) ≡ Some d → slice_get edges (first + j) ≡ Some e → d.byte < e.byte)
    → (i j : ℕ) (d e : EdgeRow) → i < j → j < k + 1 → slice_get edges (first + i) ≡ Some d → slice_get edges (first + j) ≡ Some e → d.byte < e.byte
rise_more edges first k low high some at_low at_high rises before i j d e lt below at_d at_e =
    ⊎_elim (λ earlier. before i j d e lt earlier at_d at_e) last (split j below)
  where
    split : (m : ℕ) → m < k + 1 → (m < k) ⊎ (m ≡ k)
    split m h = grind arith

    place : first + (k - 1) ≡ first + k - 1
    place = omega (arith, some)

    next : (i < k - 1) ⊎ (i ≡ k - 1) → e ≡ high → d.byte < e.byte
    next (inl less) is =
        let step = before i (k - 1) d low less (omega (arith, some)) at_d (ap (slice_get edges) place ∙ at_low) in
        omega (arith, step, rises, ap (λ (x : EdgeRow). x.byte) is)
    next (inr same) is =
        let here : d ≡ low = cc (at_d, ap (slice_get edges) (ap (λ n. first + n) same ∙ place), at_low) in
        omega (arith, rises, ap (λ (x : EdgeRow). x.byte) here, ap (λ (x : EdgeRow). x.byte) is)

    near : i < k → (i < k - 1) ⊎ (i ≡ k - 1)
    near h = grind arith

    last : j ≡ k → d.byte < e.byte
    last same =
        let is : e ≡ high = cc (at_e, ap (λ n. slice_get edges (first + n)) same, at_high) in
        next (near (omega (arith, lt, same))) is
