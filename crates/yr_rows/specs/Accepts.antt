-- What a program accepts: a chain of moves from move 0 to Accept. A program is read forwards, or backwards from the end of a span.
use Rattle.std.specs.Prelude.{◌≡◌, ℕ, zero, suc, ◌+◌, ◌/◌, ◌%◌, ◌<◌, ◌⊎◌, ◌==◌, Bool, not, IsTrue, List, length, Some, slice_get, slice_index}
use Rattle.std.specs.Int.{bit_at}
use Rattle.yr_base.specs.Places.{is_edge, is_wide_edge}
use Rattle.yr_rows.specs.Moves.{move_at}
use Rattle.yr_rows.specs.declared.moves.MoveRow.{MoveRow}
use Rattle.yr_rows.specs.declared.moves.Assertion.{Assertion}
use Rattle.yr_rows.specs.declared.moves.Assertion.TheVariants.{Start, End, Edge, NotEdge, WideEdge, WideNotEdge}
use Rattle.yr_rows.specs.declared.moves.Move.{Move}
use Rattle.yr_rows.specs.declared.moves.Move.TheVariants.{Accept, Set, Fork, Test}

-- the byte is in the set
abbrev pub HasByte : List ℕ → ℕ → Type 0
HasByte bits b = bit_at (slice_index bits (b / 8)) (b % 8) ≡ 1

-- a byte of the set stands between two places, which are read upwards
abbrev pub ReadsForwards : List ℕ → List ℕ → ℕ → ℕ → Type 0
ReadsForwards file bits i j = (j ≡ i + 1) × (i < length file) × HasByte bits (slice_index file i)

-- the same, read downwards
abbrev pub ReadsBackwards : List ℕ → List ℕ → ℕ → ℕ → Type 0
ReadsBackwards file bits i j = (i ≡ j + 1) × (j < length file) × HasByte bits (slice_index file j)

-- the assertion holds at the place, in whichever direction the program is read
abbrev pub holds : Assertion → List ℕ → ℕ → Bool
holds Start file i = i == 0
holds End file i = i == length file
holds Edge file i = is_edge file i
holds NotEdge file i = not (is_edge file i)
holds WideEdge file i = is_wide_edge file i
holds WideNotEdge file i = not (is_wide_edge file i)

module _ (read : List ℕ → ℕ → ℕ → Type 0) (sets : List (List ℕ)) (file : List ℕ) where
  -- the move leads from place i to move m and place j
  abbrev pub Does : Move → ℕ → ℕ → ℕ → Type 0
  Does Accept i m j = ⊥
  Does (Set next set) i m j = (m ≡ next) × (bits : List ℕ) × (slice_get sets set ≡ Some bits) × read bits i j
  Does (Fork next other) i m j = ((m ≡ next) ⊎ (m ≡ other)) × (j ≡ i)
  Does (Test assertion next) i m j = (m ≡ next) × IsTrue (holds assertion file i) × (j ≡ i)

  -- k moves lead from move m at place i to move m' at place j
  abbrev pub Run : List MoveRow → ℕ → ℕ → ℕ → ℕ → ℕ → Type 0
  Run moves zero m i m' j = (m ≡ m') × (i ≡ j)
  Run moves (suc k) m i m' j =
      (v : Move) × (m1 : ℕ) × (i1 : ℕ) × (move_at moves m ≡ Some v) × Does v i m1 i1 × Run moves k m1 i1 m' j

  -- some chain of moves leads from move 0 at place i to Accept at place j
  abbrev pub AcceptsBy : List MoveRow → ℕ → ℕ → Type 0
  AcceptsBy moves i j = (k : ℕ) × (m : ℕ) × Run moves k 0 i m j × (move_at moves m ≡ Some Accept)

-- the program accepts what stands from place i to place j
abbrev pub Accepts : List MoveRow → List (List ℕ) → List ℕ → ℕ → ℕ → Type 0
Accepts moves sets file i j = AcceptsBy (ReadsForwards file) sets file moves i j

-- the program, read backwards, accepts what stands from place i to place j: it goes down from j to i
abbrev pub AcceptsBackwards : List MoveRow → List (List ℕ) → List ℕ → ℕ → ℕ → Type 0
AcceptsBackwards moves sets file i j = AcceptsBy (ReadsBackwards file) sets file moves j i
