-- What the lent bytes of an automaton mean.
use Rattle.std.specs.Prelude.{ℕ, List, Option, length}
use Rattle.yr_rows.specs.Nodes.{nodes_of, edges_of, outputs_of, edge_of, link_of, own_of, AreWellformed}
use Rattle.yr_automaton.specs.declared.rows.AutomatonRows.{AutomatonRows}

-- how many nodes there are
abbrev pub node_count : AutomatonRows → ℕ
node_count rows = length (nodes_of rows.nodes.now)

-- where the edge of a node with a byte leads
abbrev pub edge : AutomatonRows → ℕ → ℕ → Option ℕ
edge rows = edge_of (nodes_of rows.nodes.now) (edges_of rows.edges.now)

-- the failure node of a node
abbrev pub link : AutomatonRows → ℕ → ℕ
link rows = link_of (nodes_of rows.nodes.now)

-- the outputs of a node itself
abbrev pub own : AutomatonRows → ℕ → List ℕ
own rows = own_of (nodes_of rows.nodes.now) (outputs_of rows.outputs.now)

-- the rows are wellformed
abbrev pub AreWellformedRows : AutomatonRows → Type 0
AreWellformedRows rows =
    AreWellformed (nodes_of rows.nodes.now) (edges_of rows.edges.now) (outputs_of rows.outputs.now)
