-- What the halving of a node's edges leaves.
use Rattle.std.specs.Prelude.{ℕ, ◌+◌, ◌<◌, ◌≤◌, List}
use Rattle.yr_rows.specs.declared.nodes.NodeRow.{NodeRow}
use Rattle.yr_rows.specs.declared.nodes.EdgeRow.{EdgeRow}
use Rattle.yr_rows.specs.Nodes.{edges_at, Each}

-- the node's edges before a place have lesser bytes
abbrev pub AreLessBefore : List EdgeRow → NodeRow → ℕ → ℕ → Type 0
AreLessBefore edges row byte place = Each (λ k edge. row.first_edge + k < place → edge.byte < byte) (edges_at edges row)

-- the node's edges from a place on have greater bytes
abbrev pub AreGreaterFrom : List EdgeRow → NodeRow → ℕ → ℕ → Type 0
AreGreaterFrom edges row byte place = Each (λ k edge. place ≤ row.first_edge + k → byte < edge.byte) (edges_at edges row)
