-- What the automaton of given words is.
use Rattle.std.specs.Prelude.{◌≡◌, ℕ, ◌<◌, ◌≤◌, List, length}
use Rattle.yr_rows.specs.declared.nodes.NodeRow.{NodeRow}
use Rattle.yr_rows.specs.declared.nodes.EdgeRow.{EdgeRow}
use Rattle.yr_rows.specs.Nodes.{edge_of, link_of, own_of, AreWellformed}
use Rattle.yr_rows.specs.Words.{times, Reports, HasOneParent, LinksToLongestSuffix, HasOneOutput, HasOutputsAtWords, HasWords, HasOnlyPrefixes}

-- the rows of an automaton
pub record Rows : Type 0 where
  pub nodes : List NodeRow
  pub edges : List EdgeRow
  pub outputs : List ℕ

pub record IsAutomatonOf (words : List (List ℕ)) (rows : Rows) : Type 0 where
  -- node 0 is always there
  pub some : 0 < length rows.nodes
  pub wellformed : AreWellformed rows.nodes rows.edges rows.outputs
  -- after each text the outputs are the numbers of the words that it ends in, each once
  pub reports : Reports (edge_of rows.nodes rows.edges) (link_of rows.nodes) (own_of rows.nodes rows.outputs) words
  -- the shapes that certification asks for
  pub parents : HasOneParent (length rows.nodes) rows.edges
  pub links : LinksToLongestSuffix (edge_of rows.nodes rows.edges) (link_of rows.nodes)
  pub one_output : HasOneOutput rows.outputs
  -- each word has exactly one output row, at the node whose word it is, and there are no others
  pub each_output : (i : ℕ) → i < length words → times i rows.outputs ≡ 1
  pub no_output : (i : ℕ) → length words ≤ i → times i rows.outputs ≡ 0
  pub places : HasOutputsAtWords (edge_of rows.nodes rows.edges) words (own_of rows.nodes rows.outputs)
  -- each node has a word, a prefix of one of the words
  pub named : HasWords (edge_of rows.nodes rows.edges) (length rows.nodes)
  pub prefixes : HasOnlyPrefixes (edge_of rows.nodes rows.edges) words
