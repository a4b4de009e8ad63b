-- Where a pattern spans a file, from place i to place j ('Writing YARA rules', Hexadecimal strings, Regular expressions).
use Rattle.std.specs.Prelude.{◌≡◌, ℕ, zero, suc, ◌+◌, ◌≤◌, ◌<◌, ◌⊎◌, Bool, true, false, List, length, Option, Some, None, slice_index}
use Rattle.yr_base.specs.Places.{is_edge, is_wide_edge}
use Rattle.yr_pattern.specs.Set.{Has}
use Rattle.yr_pattern.specs.Tree.{Tree, Trees, Empty, One, Seq, Alt, Rep, Start, End, Edge, NotEdge, WideEdge, WideNotEdge, none, more}

-- c steps of R, one after another, lead from i to j
abbrev pub Chain : (ℕ → ℕ → Type 0) → ℕ → ℕ → ℕ → Type 0
Chain R zero i j = i ≡ j
Chain R (suc c) i j = (k : ℕ) × R i k × Chain R c k j

-- c is at most the bound, where there is one
abbrev pub AtMost : ℕ → Option ℕ → Type 0
AtMost c None = Unit {0}
AtMost c (Some max) = c ≤ max

-- the byte at i is one of these, and j is the place after it
abbrev pub Forwards : List ℕ → (ℕ → Bool) → ℕ → ℕ → Type 0
Forwards file bytes i j = (j ≡ i + 1) × (i < length file) × Has bytes (slice_index file i)

-- the byte before i is one of these, and j is its place
abbrev pub Backwards : List ℕ → (ℕ → Bool) → ℕ → ℕ → Type 0
Backwards file bytes i j = (i ≡ j + 1) × (j < length file) × Has bytes (slice_index file j)

-- from i to j by the pattern, where `read` says how one byte is read. An assertion looks at the file beside its place.
module _ (read : (ℕ → Bool) → ℕ → ℕ → Type 0) (file : List ℕ) where
  abbrev mutual
    -- by cases on the pattern
    pub Walk : Tree → ℕ → ℕ → Type 0
    Walk Empty i j = i ≡ j
    Walk (One bytes) i j = read bytes i j
    Walk (Seq ts) i j = WalkAll ts i j
    Walk (Alt ts) i j = WalkAny ts i j
    Walk (Rep inner min max) i j = (c : ℕ) × (min ≤ c) × AtMost c max × Chain (Walk inner) c i j
    Walk Start i j = (i ≡ 0) × (j ≡ i)
    Walk End i j = (i ≡ length file) × (j ≡ i)
    Walk Edge i j = (is_edge file i ≡ true) × (j ≡ i)
    Walk NotEdge i j = (is_edge file i ≡ false) × (j ≡ i)
    Walk WideEdge i j = (is_wide_edge file i ≡ true) × (j ≡ i)
    Walk WideNotEdge i j = (is_wide_edge file i ≡ false) × (j ≡ i)

    -- a chain of places, one link for each member
    pub WalkAll : Trees → ℕ → ℕ → Type 0
    WalkAll none i j = i ≡ j
    WalkAll (more t ts) i j = (k : ℕ) × Walk t i k × WalkAll ts k j

    -- some branch leads there
    pub WalkAny : Trees → ℕ → ℕ → Type 0
    WalkAny none i j = ⊥
    WalkAny (more t ts) i j = Walk t i j ⊎ WalkAny ts i j

-- the pattern spans the places i to j of the file
abbrev pub Spans : Tree → List ℕ → ℕ → ℕ → Type 0
Spans tree file = Walk (Forwards file) file tree

-- the pattern, read downwards, leads from place j down to place i
abbrev pub SpansDown : Tree → List ℕ → ℕ → ℕ → Type 0
SpansDown tree file j i = Walk (Backwards file) file tree j i
