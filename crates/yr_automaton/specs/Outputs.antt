-- The outputs that a listing has left.
use Rattle.std.specs.Prelude.{◌≡◌, ◌≢◌, ℕ, Some, slice_get, zero, suc, ◌-◌, ◌<◌, ◌≤◌, ◌==◌, if◌then◌else◌, List, [], ◌++◌, length, take, drop}
use Rattle.yr_rows.specs.declared.nodes.NodeRow.{NodeRow}
use Rattle.yr_rows.specs.Nodes.{nodes_of, outputs_of, link_of, own_of, outputs_end, Each}
use Rattle.yr_automaton.specs.declared.listing.Place.{Place}

-- the outputs past the node itself, along at most k links
abbrev pub after : List NodeRow → List ℕ → ℕ → ℕ → List ℕ
after nodes outputs zero n = []
after nodes outputs (suc k) n =
    if n == 0 then [] else (own_of nodes outputs (link_of nodes n) ++ after nodes outputs k (link_of nodes n))

-- the node's outputs from one place to another, and then those along its links
abbrev pub left_of : List NodeRow → List ℕ → ℕ → ℕ → ℕ → List ℕ
left_of nodes outputs node next end = take (end - next) (drop next outputs) ++ after nodes outputs node node

-- what is left at a place, of rows in these bytes
abbrev pub left_at : List ℕ → List ℕ → Place → List ℕ
left_at nodes outputs place = left_of (nodes_of nodes) (outputs_of outputs) place.node place.next place.end

-- what a listing needs of rows: each node's outputs are there, and the links lead to node 0
pub record AreListable (nodes : List NodeRow) (outputs : List ℕ) : Type 0 where
  pub inside : Each (λ _ row. outputs_end row ≤ length outputs) nodes
  pub below : Each (λ n row. n ≢ 0 → row.failure < n) nodes

-- the same of rows in these bytes
abbrev pub AreListableBytes : List ℕ → List ℕ → Type 0
AreListableBytes nodes outputs = AreListable (nodes_of nodes) (outputs_of outputs)

-- where a listing may stand
pub record IsPlace (nodes : List NodeRow) (outputs : List ℕ) (place : Place) : Type 0 where
  pub node_in : place.node < length nodes
  pub range : place.next ≤ place.end
  pub end_in : place.end ≤ length outputs

-- the same of rows in these bytes
abbrev pub IsPlaceIn : List ℕ → List ℕ → Place → Type 0
IsPlaceIn nodes outputs place = IsPlace (nodes_of nodes) (outputs_of outputs) place

-- the place before the first of the node's own outputs
pub record IsStartOf (nodes : List NodeRow) (node : ℕ) (place : Place) : Type 0 where
  pub at : place.node ≡ node
  pub next : (row : NodeRow) → slice_get nodes node ≡ Some row → place.next ≡ row.first_output
  pub end : (row : NodeRow) → slice_get nodes node ≡ Some row → place.end ≡ outputs_end row
