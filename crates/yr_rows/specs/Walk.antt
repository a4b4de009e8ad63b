-- The walk of an automaton over a text, for any edges, failure links and outputs.
use Rattle.std.specs.Prelude.{◌≡◌, ◌≢◌, ℕ, zero, suc, ◌⊎◌, List, [], ◌∷◌, Option, Some, None}
use Rattle.std.specs.List.{flat_map}

-- Read the names so: edge n b is the target of node n's edge with the byte b, link n is its failure
-- node, own n are its own outputs.
module _ (edge : ℕ → ℕ → Option ℕ) (link : ℕ → ℕ) where
  -- k nodes are asked for the byte b, n the first of them, and it leads to m: a node's edge with the byte
  -- leads to its target, without one node 0 stays, and at another node the failure node is asked
  abbrev pub Asks : ℕ → ℕ → ℕ → ℕ → Type 0
  Asks zero n b m = ⊥
  Asks (suc k) n b m =
      ((k ≡ 0) × (edge n b ≡ Some m))
      ⊎ (((k ≡ 0) × (edge n b ≡ None) × (n ≡ 0) × (m ≡ 0))
      ⊎ ((edge n b ≡ None) × (n ≢ 0) × Asks k (link n) b m))

  -- the bytes of the text lead from n to m
  abbrev pub Walks : ℕ → List ℕ → ℕ → Type 0
  Walks n [] m = n ≡ m
  Walks n (b ∷ text) m = (k : ℕ) × (x : ℕ) × Asks k n b x × Walks x text m

module _ (link : ℕ → ℕ) where
  -- n and the nodes along its failure links, up to node 0
  abbrev pub IsChain : ℕ → List ℕ → Type 0
  IsChain n [] = ⊥
  IsChain n (m ∷ ms) = (m ≡ n) × (((n ≡ 0) × (ms ≡ [])) ⊎ ((n ≢ 0) × IsChain (link n) ms))

  -- the outputs at n: its own, then those of the nodes along its failure links
  abbrev pub AreOutputs : (ℕ → List ℕ) → ℕ → List ℕ → Type 0
  AreOutputs own n outputs = (ms : List ℕ) × IsChain n ms × (outputs ≡ flat_map own ms)
