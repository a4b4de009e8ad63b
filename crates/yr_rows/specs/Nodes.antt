-- The rows of an automaton in an image: nodes, edges and outputs, how bytes hold them, and when
-- they are wellformed.
use Rattle.std.specs.Prelude.{◌≡◌, ◌≢◌, ℕ, zero, suc, ◌+◌, ◌*◌, ◌/◌, ◌%◌, ◌<◌, ◌≤◌, ◌==◌, if◌then◌else◌, List, [], ◌∷◌, map, length, take, drop, Option, Some, None, slice_get, slice_index}
use Rattle.std.specs.List.{range_with_len}
use Rattle.std.specs.Option.{option_and_then, option_map_or}
use Rattle.yr_rows.specs.declared.nodes.NodeRow.{NodeRow}
use Rattle.yr_rows.specs.declared.nodes.EdgeRow.{EdgeRow}

-- number k of bytes that hold numbers of four bytes, the lowest byte of each first
abbrev pub number_in : List ℕ → ℕ → ℕ
number_in bytes k =
    slice_index bytes (4 * k) + 256 * slice_index bytes (4 * k + 1) + 65536 * slice_index bytes (4 * k + 2)
    + 16777216 * slice_index bytes (4 * k + 3)

-- node n of bytes that hold nodes, six numbers each
abbrev pub node_in : List ℕ → ℕ → NodeRow
node_in bytes n = record {
  first_edge = number_in bytes (6 * n);
  edges = number_in bytes (6 * n + 1);
  failure = number_in bytes (6 * n + 2);
  depth = number_in bytes (6 * n + 3);
  first_output = number_in bytes (6 * n + 4);
  outputs = number_in bytes (6 * n + 5);
}

-- edge k of bytes that hold edges, two numbers each
abbrev pub edge_in : List ℕ → ℕ → EdgeRow
edge_in bytes k = record { byte = number_in bytes (2 * k); target = number_in bytes (2 * k + 1) }

-- the bytes are whole rows of this many bytes
abbrev pub AreWhole : ℕ → List ℕ → Type 0
AreWhole size bytes = length bytes % size ≡ 0

-- the nodes that the bytes hold
abbrev pub nodes_of : List ℕ → List NodeRow
nodes_of bytes = map (node_in bytes) (range_with_len 0 (length bytes / 24))

-- the edges that the bytes hold
abbrev pub edges_of : List ℕ → List EdgeRow
edges_of bytes = map (edge_in bytes) (range_with_len 0 (length bytes / 8))

-- the outputs that the bytes hold
abbrev pub outputs_of : List ℕ → List ℕ
outputs_of bytes = map (number_in bytes) (range_with_len 0 (length bytes / 4))

-- the target of the first of these edges that has the byte
abbrev pub target_in : List EdgeRow → ℕ → Option ℕ
target_in [] b = None
target_in (e ∷ es) b = if e.byte == b then Some e.target else target_in es b

-- the edges of a node
abbrev pub edges_at : List EdgeRow → NodeRow → List EdgeRow
edges_at edges row = take row.edges (drop row.first_edge edges)

-- where the edge of node n with the byte b leads
abbrev pub edge_of : List NodeRow → List EdgeRow → ℕ → ℕ → Option ℕ
edge_of nodes edges n b = option_and_then (λ row. target_in (edges_at edges row) b) (slice_get nodes n)

-- the failure node of node n
abbrev pub link_of : List NodeRow → ℕ → ℕ
link_of nodes n = option_map_or (λ row. row.failure) (slice_get nodes n) 0

-- the outputs of node n itself
abbrev pub own_of : List NodeRow → List ℕ → ℕ → List ℕ
own_of nodes outputs n =
    option_map_or (λ row. take row.outputs (drop row.first_output outputs)) (slice_get nodes n) []

-- what holds of each item and its place
abbrev pub Each : {X : Type 0} → (ℕ → X → Type 0) → List X → Type 0
Each {X} P xs = (k : ℕ) (x : X) → slice_get xs k ≡ Some x → P k x

-- where a node's edges end
abbrev pub edges_end : NodeRow → ℕ
edges_end row = row.first_edge + row.edges

-- where a node's outputs end
abbrev pub outputs_end : NodeRow → ℕ
outputs_end row = row.first_output + row.outputs

-- where the node before node n ends, and 0 for node 0
abbrev pub end_before : (NodeRow → ℕ) → List NodeRow → ℕ → ℕ
end_before end nodes zero = 0
end_before end nodes (suc n) = option_map_or end (slice_get nodes n) 0

-- the bytes of the edges rise
abbrev pub BytesRise : List EdgeRow → Type 0
BytesRise edges = (i j : ℕ) (d e : EdgeRow) → i < j → slice_get edges i ≡ Some d → slice_get edges j ≡ Some e
    → d.byte < e.byte

-- node n, whose row this is, is wellformed among these rows
pub record IsWellformedNode (nodes : List NodeRow) (edges : List EdgeRow) (outputs : List ℕ) (n : ℕ) (row : NodeRow) : Type 0 where
  -- its edges and outputs follow those of the node before and end inside their rows, and those of the
  -- last node end with them
  pub edges_follow : row.first_edge ≡ end_before edges_end nodes n
  pub outputs_follow : row.first_output ≡ end_before outputs_end nodes n
  pub edges_inside : edges_end row ≤ length edges
  pub outputs_inside : outputs_end row ≤ length outputs
  pub edges_last : n + 1 ≡ length nodes → edges_end row ≡ length edges
  pub outputs_last : n + 1 ≡ length nodes → outputs_end row ≡ length outputs
  pub bytes_rise : BytesRise (edges_at edges row)
  pub low : row.depth ≤ 4
  -- node 0 is the root
  pub root : n ≡ 0 → (row.depth ≡ 0) × (row.failure ≡ 0)
  -- every other node lies deeper, and its failure node stands before it and less deep
  pub deep : n ≢ 0 → 0 < row.depth
  pub below : n ≢ 0 → row.failure < n
  pub falls : n ≢ 0 → (up : NodeRow) → slice_get nodes row.failure ≡ Some up → up.depth < row.depth
  -- its edges lead one deeper
  pub deeper : Each (λ _ edge. (to : NodeRow) → slice_get nodes edge.target ≡ Some to → to.depth ≡ row.depth + 1)
      (edges_at edges row)

-- the edge has a byte, and leads to a node
abbrev pub IsEdge : List NodeRow → EdgeRow → Type 0
IsEdge nodes edge = (edge.byte < 256) × (edge.target < length nodes)

-- the rows are wellformed
pub record AreWellformed (nodes : List NodeRow) (edges : List EdgeRow) (outputs : List ℕ) : Type 0 where
  pub each_node : Each (IsWellformedNode nodes edges outputs) nodes
  pub each_edge : Each (λ _ edge. IsEdge nodes edge) edges
