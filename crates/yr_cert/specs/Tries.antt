-- The rows that the checks read, and what the checks note of them.
use Rattle.std.specs.Prelude.{◌≡◌, ℕ, ◌<◌, Bool, true, false, List, map, length, take, Option, Some, slice_get}
use Rattle.yr_base.specs.declared.atom.Atom.{Atom}
use Rattle.yr_rows.specs.declared.nodes.NodeRow.{NodeRow}
use Rattle.yr_rows.specs.declared.nodes.EdgeRow.{EdgeRow}
use Rattle.yr_rows.specs.Nodes.{nodes_of, edges_of, outputs_of, edge_of, link_of, own_of, AreWellformed}
use Rattle.yr_rows.specs.Words.{times, IsWordOf}
use Rattle.yr_automaton.specs.Atoms.{word}
use Rattle.yr_cert.specs.declared.trie.Trie.{Trie}
use Rattle.yr_cert.specs.declared.parent.Step.{Step}
use Rattle.yr_cert.specs.declared.parent.Parent.{Parent}
use Rattle.yr_cert.specs.declared.parent.Parent.TheVariants.{NoEdge, OneEdge, ManyEdges}
use Rattle.yr_cert.specs.declared.home.Home.{Home}
use Rattle.yr_cert.specs.declared.home.Home.TheVariants.{NoOutput, OneOutput, ManyOutputs}

abbrev pub nodes_in : Trie → List NodeRow
nodes_in trie = nodes_of trie.rows.nodes.now

abbrev pub edges_in : Trie → List EdgeRow
edges_in trie = edges_of trie.rows.edges.now

abbrev pub outputs_in : Trie → List ℕ
outputs_in trie = outputs_of trie.rows.outputs.now

-- where the edge of a node with a byte leads, its failure node, and its own outputs
abbrev pub edge_in : Trie → ℕ → ℕ → Option ℕ
edge_in trie = edge_of (nodes_in trie) (edges_in trie)

abbrev pub link_in : Trie → ℕ → ℕ
link_in trie = link_of (nodes_in trie)

abbrev pub own_in : Trie → ℕ → List ℕ
own_in trie = own_of (nodes_in trie) (outputs_in trie)

-- the targets of edges
abbrev pub targets_of : List EdgeRow → List ℕ
targets_of edges = map (λ (e : EdgeRow). e.target) edges

-- the rows are wellformed, there is a node, and outputs name splits
pub record IsReadable (trie : Trie) : Type 0 where
  pub count : trie.nodes ≡ length (nodes_in trie)
  pub some : 0 < length (nodes_in trie)
  pub formed : AreWellformed (nodes_in trie) (edges_in trie) (outputs_in trie)
  pub splits : (k split : ℕ) → slice_get (outputs_in trie) k ≡ Some split → split < trie.splits

-- what is noted of each number, by how often it stands among the first k of a list
abbrev pub AreNoted : {X : Type 0} → (ℕ → ℕ → X → Type 0) → List ℕ → ℕ → List X → Type 0
AreNoted {X} Says numbers k notes =
    (m : ℕ) (note : X) → slice_get notes m ≡ Some note → Says m (times m (take k numbers)) note

-- ---- the edges that lead to a node

-- so many edges lead to the node; where it is one, it is this one
abbrev pub SaysParent : (ℕ → ℕ → Option ℕ) → ℕ → ℕ → Parent → Type 0
SaysParent edge node times NoEdge = times ≡ 0
SaysParent edge node times (OneEdge step) = (times ≡ 1) × (edge step.source step.byte ≡ Some node)
SaysParent edge node times ManyEdges = 1 < times

abbrev pub is_one_edge : Parent → Bool
is_one_edge NoEdge = false
is_one_edge (OneEdge step) = true
is_one_edge ManyEdges = false

-- one edge more leads to the node
abbrev pub with_edge : Parent → Step → Parent
with_edge NoEdge step = OneEdge step
with_edge (OneEdge other) step = ManyEdges
with_edge ManyEdges step = ManyEdges

-- what is noted of the first k edges, for each node
pub record AreParents (trie : Trie) (k : ℕ) (parents : List Parent) : Type 0 where
  pub long : length parents ≡ length (nodes_in trie)
  pub each : AreNoted (SaysParent (edge_in trie)) (targets_of (edges_in trie)) k parents

-- ---- the output rows of a split

-- the word is that of a node that has an output row of the split
abbrev pub HasOutputAt : (ℕ → ℕ → Option ℕ) → (ℕ → List ℕ) → ℕ → List ℕ → Type 0
HasOutputAt edge own split spelled = (n : ℕ) × IsWordOf edge spelled n × (0 < times split (own n))

-- the split has so many output rows; where it is one, this is the word of its node
abbrev pub SaysHome : (ℕ → ℕ → Option ℕ) → (ℕ → List ℕ) → ℕ → ℕ → Home → Type 0
SaysHome edge own split times NoOutput = times ≡ 0
SaysHome edge own split times (OneOutput atom) = (times ≡ 1) × HasOutputAt edge own split (word atom)
SaysHome edge own split times ManyOutputs = 1 < times

abbrev pub is_many_outputs : Home → Bool
is_many_outputs NoOutput = false
is_many_outputs (OneOutput atom) = false
is_many_outputs ManyOutputs = true

-- one output row more, at the node of a word
abbrev pub with_output : Home → Atom → Home
with_output NoOutput atom = OneOutput atom
with_output (OneOutput other) atom = ManyOutputs
with_output ManyOutputs atom = ManyOutputs

-- what is noted of the first k output rows, for each split
pub record AreHomes (trie : Trie) (k : ℕ) (homes : List Home) : Type 0 where
  pub long : length homes ≡ trie.splits
  pub each : AreNoted (SaysHome (edge_in trie) (own_in trie)) (outputs_in trie) k homes
