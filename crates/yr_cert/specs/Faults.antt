-- Why an image is not certified: the first of the three shapes that it has not, with the least number.
use Rattle.std.specs.Prelude.{◌≢◌, ℕ, ◌<◌, List, map, length}
use Rattle.yr_rows.specs.declared.nodes.NodeRow.{NodeRow}
use Rattle.yr_rows.specs.declared.nodes.EdgeRow.{EdgeRow}
use Rattle.yr_rows.specs.Nodes.{edge_of, link_of}
use Rattle.yr_rows.specs.Words.{times, IsWordOf, HasOneParent, LinksToLongestSuffix}
use Rattle.yr_image.specs.Image.{Image}
use Rattle.yr_cert.specs.Words.{HasLongestSuffix}
use Rattle.yr_cert.specs.declared.fault.CertFault.{CertFault}
use Rattle.yr_cert.specs.declared.fault.CertFault.TheVariants.{Parent, Link, Twice, NoMemory}

-- the least number of which something holds
abbrev pub IsLeast : (ℕ → Type 0) → ℕ → Type 0
IsLeast P n = P n × ((m : ℕ) → m < n → P m → ⊥)

module _ (nodes : List NodeRow) (edges : List EdgeRow) where
  -- node n is not node 0, and not the target of exactly one edge
  abbrev pub HasNoParent : ℕ → Type 0
  HasNoParent n = (n ≢ 0) × (n < length nodes) × (times n (map (λ (e : EdgeRow). e.target) edges) ≢ 1)

  -- the failure node of n has the longest proper suffix of each word of n that is a node's word
  abbrev pub LinksRight : ℕ → Type 0
  LinksRight n = (word : List ℕ) → IsWordOf (edge_of nodes edges) word n
      → HasLongestSuffix (edge_of nodes edges) word (link_of nodes n)

  -- node n is not node 0, and links elsewhere
  abbrev pub LinksWrong : ℕ → Type 0
  LinksWrong n = (n ≢ 0) × (n < length nodes) × (LinksRight n → ⊥)

-- the split, one of so many, has more than one output row
abbrev pub IsTwice : (splits : ℕ) → List ℕ → ℕ → Type 0
IsTwice splits outputs split = (split < splits) × (1 < times split outputs)

-- the first shape that the image has not, at its least number
abbrev pub IsFirstCertFault : Image → CertFault → Type 0
IsFirstCertFault image (Parent n) = IsLeast (HasNoParent image.nodes image.edges) n
IsFirstCertFault image (Link n) =
    HasOneParent (length image.nodes) image.edges × IsLeast (LinksWrong image.nodes image.edges) n
IsFirstCertFault image (Twice split) =
    HasOneParent (length image.nodes) image.edges
    × LinksToLongestSuffix (edge_of image.nodes image.edges) (link_of image.nodes)
    × IsLeast (IsTwice (length image.splits) image.outputs) split
IsFirstCertFault image NoMemory = Unit {0}
