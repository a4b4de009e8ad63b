-- The walk over the ends that a program has from each place of a file.
use Rattle.std.specs.Prelude.{◌≡◌, ℕ, ◌+◌, ◌<◌, ◌≤◌, ◌^◌, Bool, IsTrue, List, length, Option, Some, None}
use Rattle.std.specs.Option.{MatchOption}
use Rattle.yr_base.specs.declared.border.Border.{Border}
use Rattle.yr_base.specs.Places.{has_right_border}
use Rattle.yr_rows.specs.Moves.{move_at, AreWellformedMoves}
use Rattle.yr_rows.specs.Accepts.{ReadsForwards, Run}
use Rattle.yr_rows.specs.declared.moves.MoveRow.{MoveRow}
use Rattle.yr_rows.specs.declared.moves.Move.TheVariants.{Accept}
use Rattle.yr_moves.specs.Walks.{IsBest, IsEnd}
use Rattle.yr_walks.specs.declared.carried.Carried.{Carried}
use Rattle.yr_walks.specs.Carried.{Shown, Holds, AreBelow, Falls}
use Rattle.yr_walks.specs.Spreads.{HoldsAs}

-- a walk down over the places of a file; those from `place` on are done
pub record Walk : Type 0 where
  pub moves : List MoveRow
  pub sets : List (List ℕ)
  pub file : List ℕ
  pub greedy : Bool
  pub border : Border
  pub place : ℕ

-- the best end that the program has from a place and that is not before the least place, or none
abbrev pub IsBestEnd : Walk → (at least : ℕ) → Option ℕ → Type 0
IsBestEnd walk at least end =
    MatchOption end ((j : ℕ) → IsEnd walk.moves walk.sets walk.file at least walk.border j → ⊥)
    (λ j. IsBest walk.greedy (IsEnd walk.moves walk.sets walk.file at least walk.border) j)

-- some chain of moves leads from move m at place i to Accept at place j, and the right border holds there
abbrev pub EndsFrom : Walk → (m i j : ℕ) → Type 0
EndsFrom walk m i j = (k : ℕ) × (e : ℕ) × Run (ReadsForwards walk.file) walk.sets walk.file walk.moves k m i e j
    × (move_at walk.moves e ≡ Some Accept) × IsTrue (has_right_border walk.border walk.file j)

-- the moves from which an end behind the place is reached, each with the best
pub record AreBeyond (walk : Walk) (i : ℕ) (items : List Carried) : Type 0 where
  pub falls : Falls walk.greedy items
  pub sound : (m j : ℕ) → Holds items m j → EndsFrom walk m i j × (i < j)
  pub complete : (m j : ℕ) → EndsFrom walk m i j → i < j → HoldsAs walk.greedy j items m

-- the moves from which the place itself is an end
pub record AreHere (walk : Walk) (i : ℕ) (items : List Carried) : Type 0 where
  pub sound : (m j : ℕ) → Holds items m j → EndsFrom walk m i i × (j ≡ i)
  pub complete : (m : ℕ) → EndsFrom walk m i i → Holds items m i

-- the first of two, or else the second
abbrev pub or_else : Option ℕ → Option ℕ → Option ℕ
or_else None second = second
or_else (Some j) second = Some j

-- what a walk keeps: the moves from which an end is reached that lies behind its place, and that is its place
pub record Kept : Type 0 where
  pub beyond : Shown
  pub here : Shown

-- the marks have room for so many moves
abbrev pub HasRoom : ℕ → Kept → Type 0
HasRoom n marks = (n ≤ marks.beyond.room) × (n ≤ marks.here.room)

-- the marks are as the walk left them
pub record IsMidway (walk : Walk) (marks : Kept) : Type 0 where
  pub wellformed : AreWellformedMoves walk.moves walk.sets
  pub small : length walk.file ≤ 2 ^ 28
  pub place : walk.place ≤ length walk.file + 1
  pub room : HasRoom (length walk.moves + 1) marks
  pub below : AreBelow (length walk.moves) marks.beyond.items × AreBelow (length walk.moves) marks.here.items
  pub beyond : walk.place ≤ length walk.file → AreBeyond walk walk.place marks.beyond.items
  pub here : walk.place ≤ length walk.file → AreHere walk walk.place marks.here.items
