-- Moves that carry the class of the bytes that they read, where rows carry a set's number; and what chains of them do.
use Rattle.std.specs.Prelude.{◌≡◌, ℕ, zero, suc, ◌⊎◌, Bool, IsTrue, List, Some, slice_get}
use Rattle.yr_rows.specs.Accepts.{holds}
use Rattle.yr_rows.specs.declared.moves.Assertion.{Assertion}

-- one move
pub data Act : Type 0 where
  Stop : Act
  Read : (next : ℕ) → (bytes : ℕ → Bool) → Act
  Branch : (next other : ℕ) → Act
  Ask : (assertion : Assertion) → (next : ℕ) → Act

module _ (read : (ℕ → Bool) → ℕ → ℕ → Type 0) (file : List ℕ) where
  -- the move leads from place i to move m and place j
  abbrev pub Does : Act → ℕ → ℕ → ℕ → Type 0
  Does Stop i m j = ⊥
  Does (Read next bytes) i m j = (m ≡ next) × read bytes i j
  Does (Branch next other) i m j = ((m ≡ next) ⊎ (m ≡ other)) × (j ≡ i)
  Does (Ask assertion next) i m j = (m ≡ next) × IsTrue (holds assertion file i) × (j ≡ i)

  -- k moves lead from move m at place i to move m' at place j
  abbrev pub Run : List Act → ℕ → ℕ → ℕ → ℕ → ℕ → Type 0
  Run acts zero m i m' j = (m ≡ m') × (i ≡ j)
  Run acts (suc k) m i m' j =
      (v : Act) × (m1 : ℕ) × (i1 : ℕ) × (slice_get acts m ≡ Some v) × Does v i m1 i1 × Run acts k m1 i1 m' j

  -- some chain of moves leads from move 0 at place i to the last one at place j
  abbrev pub Reaches : List Act → ℕ → ℕ → Type 0
  Reaches acts i j = (k : ℕ) × (m : ℕ) × Run acts k 0 i m j × (slice_get acts m ≡ Some Stop)
