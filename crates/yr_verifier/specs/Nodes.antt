-- What a node of the automaton must have, in the parts that are tested one after another.
use Rattle.std.specs.Prelude.{◌≡◌, ◌≢◌, ℕ, ◌+◌, ◌<◌, ◌≤◌, List, length, Some, slice_get, All}
use Rattle.yr_rows.specs.declared.nodes.NodeRow.{NodeRow}
use Rattle.yr_rows.specs.declared.nodes.EdgeRow.{EdgeRow}
use Rattle.yr_rows.specs.Nodes.{end_before, edges_end, outputs_end, Each}
use Rattle.yr_image.specs.Image.{Image}
use Rattle.yr_machine.specs.Automaton.{HasAtomOf}

module _ (image : Image) where
  -- its edges and outputs follow those of the node before, and those of the last node end with their sections
  pub record HasRanges (n : ℕ) (row : NodeRow) : Type 0 where
    pub edges_follow : row.first_edge ≡ end_before edges_end image.nodes n
    pub outputs_follow : row.first_output ≡ end_before outputs_end image.nodes n
    pub edges_inside : edges_end row ≤ length image.edges
    pub outputs_inside : outputs_end row ≤ length image.outputs
    pub edges_last : n + 1 ≡ length image.nodes → edges_end row ≡ length image.edges
    pub outputs_last : n + 1 ≡ length image.nodes → outputs_end row ≡ length image.outputs

  -- its depth, and its failure node
  pub record HasDepth (n : ℕ) (row : NodeRow) : Type 0 where
    pub low : row.depth ≤ 4
    pub root : n ≡ 0 → (row.depth ≡ 0) × (row.failure ≡ 0)
    pub deep : n ≢ 0 → 0 < row.depth
    pub below : n ≢ 0 → row.failure < n
    pub falls : n ≢ 0 → (up : NodeRow) → slice_get image.nodes row.failure ≡ Some up → up.depth < row.depth

  -- an edge leads one deeper
  abbrev pub LeadsDeeper : (depth : ℕ) → EdgeRow → Type 0
  LeadsDeeper depth edge = (to : NodeRow) → slice_get image.nodes edge.target ≡ Some to → to.depth ≡ depth + 1

  abbrev pub AllLeadDeeper : (depth : ℕ) → List EdgeRow → Type 0
  AllLeadDeeper depth edges = Each (λ _ edge. LeadsDeeper depth edge) edges

  -- the atoms of outputs have a depth as their length
  abbrev pub HaveAtoms : (depth : ℕ) → List ℕ → Type 0
  HaveAtoms depth outputs = All (HasAtomOf image depth) outputs
