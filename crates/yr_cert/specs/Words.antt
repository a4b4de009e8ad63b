-- The words of an image's splits, and what it is that the hits are exactly the ends of these words.
use Rattle.std.specs.Prelude.{◌≡◌, ℕ, ◌≤◌, List, length, take, Contains, Option, Some, slice_get}
use Rattle.yr_rows.specs.Nodes.{edge_of, link_of, own_of}
use Rattle.yr_rows.specs.Words.{times, OnceIf, EndsIn, HasProperSuffix, IsWordOf}
use Rattle.yr_image.specs.Image.{Image}
use Rattle.yr_machine.specs.Hits.{AreHits}

-- the node has the longest proper suffix of the word that is a node's word
abbrev pub HasLongestSuffix : (edge : ℕ → ℕ → Option ℕ) → (word : List ℕ) → (node : ℕ) → Type 0
HasLongestSuffix edge word node =
    (suffix : List ℕ) × HasProperSuffix word suffix × IsWordOf edge suffix node
    × ((other : List ℕ) (m : ℕ) → HasProperSuffix word other → IsWordOf edge other m
    → length other ≤ length suffix)

module _ (image : Image) where
  -- where the edge of a node with a byte leads
  abbrev pub edge : ℕ → ℕ → Option ℕ
  edge = edge_of image.nodes image.edges

  -- the failure node of a node
  abbrev pub link : ℕ → ℕ
  link = link_of image.nodes

  -- the outputs of a node itself
  abbrev pub own : ℕ → List ℕ
  own = own_of image.nodes image.outputs

  -- a path of edges from node 0 to a node with an output row of the split spells the word
  abbrev pub IsWordOfSplit : (split : ℕ) → (word : List ℕ) → Type 0
  IsWordOfSplit split word = (n : ℕ) × IsWordOf edge word n × Contains (own n) split

  -- the text ends in a word of the split
  abbrev pub EndsInWordOf : (text : List ℕ) → (split : ℕ) → Type 0
  EndsInWordOf text split = (word : List ℕ) × IsWordOfSplit split word × EndsIn text word

  -- after each front of each file the hits are the splits in a word of which the front ends, each once
  abbrev pub IsCertified : Type 0
  IsCertified = (file : List ℕ) (hits : List (List ℕ)) → AreHits image file hits
      → (e split : ℕ) (outputs : List ℕ) → slice_get hits e ≡ Some outputs
      → OnceIf (EndsInWordOf (take e file) split) (times split outputs)
