-- Words as numbers: 0 for no byte, and for a word with one more byte 256 times the number before,
-- plus the byte, plus 1. Every number is that of one word, and numbers rise with the length, then in the order of bytes.
use Rattle.std.specs.Prelude.{◌≡◌, ◌≢◌, ℕ, ◌+◌, ◌-◌, ◌*◌, ◌/◌, ◌%◌, ◌<◌, ◌≤◌, List, [], ◌∷◌, length, take, get_or, Contains}
use Rattle.yr_rows.specs.declared.nodes.NodeRow.{NodeRow}
use Rattle.yr_rows.specs.declared.nodes.EdgeRow.{EdgeRow}
use Rattle.std.specs.List.{AllByRecursion}

-- a list of bytes
abbrev pub AllBytes : List ℕ → Type 0
AllBytes w = AllByRecursion (λ b. b < 256) w

-- the number of the word that has w after the word of number k
abbrev pub key_after : ℕ → List ℕ → ℕ
key_after k [] = k
key_after k (b ∷ w) = key_after (k * 256 + b + 1) w

-- the numbers of its prefixes but the empty one
abbrev pub prefix_keys : ℕ → List ℕ → List ℕ
prefix_keys k [] = []
prefix_keys k (b ∷ w) = (k * 256 + b + 1) ∷ prefix_keys (k * 256 + b + 1) w

-- the number of a reversed word
abbrev pub key : List ℕ → ℕ
key [] = 0
key (b ∷ r) = key r * 256 + b + 1

-- the numbers rise
abbrev pub Rises : List ℕ → Type 0
Rises xs = (i j : ℕ) → i < j → j < length xs → get_or xs i 0 < get_or xs j 0

-- the numbers never fall
abbrev pub NeverFalls : List ℕ → Type 0
NeverFalls xs = (i j : ℕ) → i ≤ j → j < length xs → get_or xs i 0 ≤ get_or xs j 0

-- where the run of each key begins, and where the last one ends
abbrev pub AreStarts : List ℕ → List ℕ → Type 0
AreStarts keys starts = (length starts ≡ length keys + 1)
    × ((n : ℕ) → n < length keys → get_or starts n 0 ≤ get_or starts (n + 1) 0)

-- the keys rise from 0 on
pub record AreKeys (keys : List ℕ) : Type 0 where
  pub some : 0 < length keys
  pub first : get_or keys 0 0 ≡ 0
  pub rises : Rises keys

-- the key at the place is that of the word's longest proper suffix that has one
abbrev pub IsLongestIn : List ℕ → ℕ → ℕ → Type 0
IsLongestIn keys k place = (r : List ℕ) → AllBytes r → key r ≡ k →
    (i : ℕ) × (i < length r) × (get_or keys place 0 ≡ key (take i r))
    × ((j : ℕ) → j < length r → Contains keys (key (take j r)) → j ≤ i)

-- for each key, where its run in xs lies
pub record AreRuns (keys xs starts : List ℕ) : Type 0 where
  pub count : length starts ≡ length keys + 1
  pub first : get_or starts 0 0 ≡ 0
  pub last : get_or starts (length keys) 0 ≡ length xs
  pub rise : (n : ℕ) → n < length keys → get_or starts n 0 ≤ get_or starts (n + 1) 0
  pub within : (n : ℕ) → n ≤ length keys → get_or starts n 0 ≤ length xs
  pub inside : (n k : ℕ) → n < length keys → get_or starts n 0 ≤ k → k < get_or starts (n + 1) 0
      → get_or xs k 0 ≡ get_or keys n 0
  pub outside : (n k : ℕ) → n < length keys → k < length xs → get_or xs k 0 ≡ get_or keys n 0
      → (get_or starts n 0 ≤ k) × (k < get_or starts (n + 1) 0)

-- each key is that of a word of at most four bytes
abbrev pub AreShort : List ℕ → Type 0
AreShort keys = (n : ℕ) → n < length keys
    → (r : List ℕ) × AllBytes r × (length r ≤ 4) × (key r ≡ get_or keys n 0)

-- the row of the node at place n
pub record IsKeyedNode (keys edge_starts output_starts : List ℕ) (n : ℕ) (row : NodeRow) : Type 0 where
  pub first_edge : row.first_edge ≡ get_or edge_starts n 0
  pub edges : row.edges ≡ get_or edge_starts (n + 1) 0 - get_or edge_starts n 0
  pub first_output : row.first_output ≡ get_or output_starts n 0
  pub outputs : row.outputs ≡ get_or output_starts (n + 1) 0 - get_or output_starts n 0
  pub depth : (r : List ℕ) → AllBytes r → key r ≡ get_or keys n 0 → row.depth ≡ length r
  pub root : n ≡ 0 → row.failure ≡ 0
  pub below : n ≢ 0 → row.failure < n
  pub fails : n ≢ 0 → IsLongestIn keys (get_or keys n 0) row.failure

-- the row of the edge to node k + 1
abbrev pub IsEdgeTo : List ℕ → ℕ → EdgeRow → Type 0
IsEdgeTo keys k e = (e.byte ≡ (get_or keys (k + 1) 0 - 1) % 256) × (e.target ≡ k + 1)

-- the key of the parent of node k + 1
abbrev pub IsParent : List ℕ → ℕ → ℕ → Type 0
IsParent keys k p = p ≡ (get_or keys (k + 1) 0 - 1) / 256
