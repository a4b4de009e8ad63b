-- The words of an automaton's nodes, and the shapes that make the walk find each end of a word.
use Rattle.std.specs.Prelude.{◌≡◌, ◌≢◌, ℕ, ◌+◌, ◌<◌, ◌≤◌, ◌==◌, if◌then◌else◌, List, [], ◌∷◌, ◌++◌, map, length, Contains, Option, Some, slice_get}
use Rattle.std.specs.Option.{option_and_then}
use Rattle.yr_rows.specs.declared.nodes.EdgeRow.{EdgeRow}
use Rattle.yr_rows.specs.Walk.{Walks, AreOutputs}

-- how often the number stands in the list
abbrev pub times : ℕ → List ℕ → ℕ
times i [] = 0
times i (x ∷ xs) = (if x == i then 1 else 0) + times i xs

-- once where it holds, and else not at all
abbrev pub OnceIf : Type 0 → ℕ → Type 0
OnceIf P n = (P → n ≡ 1) × ((P → ⊥) → n ≡ 0)

-- the text ends in the word
abbrev pub EndsIn : List ℕ → List ℕ → Type 0
EndsIn text word = (front : List ℕ) × (front ++ word ≡ text)

-- the text begins with the word
abbrev pub BeginsWith : List ℕ → List ℕ → Type 0
BeginsWith text word = (back : List ℕ) × (word ++ back ≡ text)

-- the text ends in the word and is longer
abbrev pub HasProperSuffix : List ℕ → List ℕ → Type 0
HasProperSuffix text word = EndsIn text word × (length word < length text)

module _ (edge : ℕ → ℕ → Option ℕ) where
  -- the node that a path of edges leads to
  abbrev pub path : ℕ → List ℕ → Option ℕ
  path n [] = Some n
  path n (b ∷ word) = option_and_then (λ m. path m word) (edge n b)

  -- a path of edges from node 0 to n spells the word
  abbrev pub IsWordOf : List ℕ → ℕ → Type 0
  IsWordOf word n = path 0 word ≡ Some n

  -- each node but 0 has a failure node whose word is the longest proper suffix that is a node's word
  abbrev pub LinksToLongestSuffix : (ℕ → ℕ) → Type 0
  LinksToLongestSuffix link = (n : ℕ) (word : List ℕ) → n ≢ 0 → IsWordOf word n
      → (suffix : List ℕ) × HasProperSuffix word suffix × IsWordOf suffix (link n)
      × ((other : List ℕ) (m : ℕ) → HasProperSuffix word other → IsWordOf other m
      → length other ≤ length suffix)

  -- each node of so many has a word
  abbrev pub HasWords : ℕ → Type 0
  HasWords nodes = (n : ℕ) → n < nodes → (word : List ℕ) × IsWordOf word n

  -- the word of each node but 0 is a prefix of one of these words
  abbrev pub HasOnlyPrefixes : List (List ℕ) → Type 0
  HasOnlyPrefixes words = (n : ℕ) (word : List ℕ) → n ≢ 0 → IsWordOf word n
      → (whole : List ℕ) × Contains words whole × BeginsWith whole word

  -- each of these words stands by its number once among the own outputs of the node whose word it is,
  -- and of no other node
  abbrev pub HasOutputsAtWords : List (List ℕ) → (ℕ → List ℕ) → Type 0
  HasOutputsAtWords words own = (i n : ℕ) (whole word : List ℕ) → slice_get words i ≡ Some whole
      → IsWordOf word n → OnceIf (word ≡ whole) (times i (own n))

-- every node but 0, of so many, is the target of exactly one edge
abbrev pub HasOneParent : ℕ → List EdgeRow → Type 0
HasOneParent nodes edges = (n : ℕ) → n ≢ 0 → n < nodes
    → times n (map (λ (e : EdgeRow). e.target) edges) ≡ 1

-- every number stands in at most one output row
abbrev pub HasOneOutput : List ℕ → Type 0
HasOneOutput outputs = (i : ℕ) → times i outputs ≤ 1

-- word i is one in which the text ends
abbrev pub EndsInWord : List (List ℕ) → List ℕ → ℕ → Type 0
EndsInWord words text i = (word : List ℕ) × (slice_get words i ≡ Some word) × EndsIn text word

-- after each text from node 0 the outputs are the numbers of the words that it ends in, each once
abbrev pub Reports : (ℕ → ℕ → Option ℕ) → (ℕ → ℕ) → (ℕ → List ℕ) → List (List ℕ) → Type 0
Reports edge link own words = (text outputs : List ℕ) (n i : ℕ) → Walks edge link 0 text n
    → AreOutputs link own n outputs → OnceIf (EndsInWord words text i) (times i outputs)
