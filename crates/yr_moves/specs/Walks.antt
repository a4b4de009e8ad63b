-- Searches over many places: which moves stand at a place, ends, starts, occurrences.
use Rattle.std.specs.Prelude.{◌≡◌, ℕ, zero, suc, ◌+◌, ◌-◌, ◌<◌, ◌≤◌, ◌^◌, Bool, IsTrue, List, length, Option, Some, None, slice_get, Contains}
use Rattle.std.specs.Bool.{MatchBool}
use Rattle.yr_base.specs.declared.border.Border.{Border}
use Rattle.yr_base.specs.Places.{has_right_border}
use Rattle.yr_rows.specs.Moves.{move_at, AreWellformedMoves}
use Rattle.yr_rows.specs.Accepts.{ReadsBackwards, Run, AcceptsBy, Accepts, AcceptsBackwards}
use Rattle.yr_rows.specs.declared.moves.MoveRow.{MoveRow}
use Rattle.yr_rows.specs.declared.moves.Move.TheVariants.{Accept}
use Rattle.yr_moves.specs.Marked.{Shown}
use Rattle.yr_moves.specs.Passes.{AreBelow}

-- the byte before a place
abbrev pub byte_before : List ℕ → ℕ → Option ℕ
byte_before file zero = None
byte_before file (suc j) = slice_get file j

module _ (read : List ℕ → ℕ → ℕ → Type 0) (moves : List MoveRow) (sets : List (List ℕ)) (file : List ℕ) where
  -- The members stand at place i for the chains that begin at these places and end at those that are left:
  -- a chain leads to each member, and each accepting chain goes through one.
  pub record Stands (Begun Left : ℕ → Type 0) (i : ℕ) (members : List ℕ) : Type 0 where
    pub sound : (x : ℕ) → Contains members x → (a : ℕ) × Begun a × (k : ℕ) × Run read sets file moves k 0 a x i
    pub complete : (a o : ℕ) → Begun a → Left o → AcceptsBy read sets file moves a o →
        (m : ℕ) × (k : ℕ) × (e : ℕ) × Contains members m × Run read sets file moves k m i e o × (move_at moves e ≡ Some Accept)

-- P holds of j, and j is the greatest such place, or the least
abbrev pub IsBest : (greatest : Bool) → (ℕ → Type 0) → ℕ → Type 0
IsBest greatest P j = P j × ((o : ℕ) → P o → MatchBool greatest (o ≤ j) (j ≤ o))

-- the program accepts from `at` up to j, which is not before the least place, and the right border holds at j
abbrev pub IsEnd : List MoveRow → List (List ℕ) → List ℕ → (at least : ℕ) → Border → ℕ → Type 0
IsEnd moves sets file at least border j = Accepts moves sets file at j × (least ≤ j) × IsTrue (has_right_border border file j)

-- the program accepts something in the text
abbrev pub Occurs : List MoveRow → List (List ℕ) → List ℕ → Type 0
Occurs moves sets text = (i : ℕ) × (j : ℕ) × (i ≤ length text) × Accepts moves sets text i j

-- a walk down over the places from which a backwards program accepts up to `at`; those from `place` on are done
pub record Walk : Type 0 where
  pub moves : List MoveRow
  pub sets : List (List ℕ)
  pub file : List ℕ
  pub at : ℕ
  pub place : ℕ

-- the program, read backwards, accepts from i up to the walk's end, and i is still to come
abbrev pub IsStart : Walk → ℕ → Type 0
IsStart walk i = AcceptsBackwards walk.moves walk.sets walk.file i walk.at × (i < walk.place)

-- the marks are as the walk left them
pub record IsMidway (walk : Walk) (marks : Shown) : Type 0 where
  pub wellformed : AreWellformedMoves walk.moves walk.sets
  pub inside : walk.at ≤ length walk.file
  pub small : length walk.file ≤ 2 ^ 28
  pub place : walk.place ≤ walk.at + 1
  pub room : length walk.moves ≤ marks.room
  pub below : AreBelow (length walk.moves) marks.items
  pub stands : Stands (ReadsBackwards walk.file) walk.moves walk.sets walk.file (λ a. a ≡ walk.at) (λ o. o < walk.place) (walk.place - 1) marks.items
