-- The shape of the automaton of a compiled image.
use Rattle.std.specs.Prelude.{ℕ, List, length}
use Rattle.yr_rows.specs.Nodes.{edge_of, link_of}
use Rattle.yr_rows.specs.Words.{HasOneParent, LinksToLongestSuffix, HasOneOutput}
use Rattle.yr_image.specs.Image.{Image}
use Rattle.yr_image.specs.Reading.{image_in}
use Rattle.yr_meaning.specs.Scan.{ModuleValues}
use Rattle.yr_rules.specs.Rules.{PlainRules}
use Rattle.yr_preserves.specs.Preserves.{PreservesReports}
use Rattle.yr_preserves.specs.AtomLengths.{KeepsAtomLengths}

-- each node has one parent, links to the longest suffix of its word, and each split has one output at most
pub record IsTrie (image : Image) : Type 0 where
  pub parents : HasOneParent (length image.nodes) image.edges
  pub links : LinksToLongestSuffix (edge_of image.nodes image.edges) (link_of image.nodes)
  pub outputs : HasOneOutput image.outputs

-- an image to which rules may be compiled: the choice of atoms is free
pub record IsCompiled (modules : List ℕ → ModuleValues) (bytes : List ℕ) (rules : PlainRules) : Type 0 where
  pub preserves : PreservesReports modules bytes rules
  pub atoms : KeepsAtomLengths bytes rules
  pub automaton : IsTrie (image_in bytes)
