-- The walk over the starts of spans: ends are told at places, and brought down to the places from which spans begin.
use Rattle.std.specs.Prelude.{◌≡◌, ℕ, ◌+◌, ◌<◌, ◌≤◌, ◌⊎◌, Bool, false, List, length, Option, Some, None, slice_get}
use Rattle.std.specs.Option.{MatchOption}
use Rattle.yr_rows.specs.Moves.{move_at, AreWellformedMoves}
use Rattle.yr_rows.specs.Accepts.{ReadsBackwards, Run}
use Rattle.yr_rows.specs.declared.moves.MoveRow.{MoveRow}
use Rattle.yr_rows.specs.declared.moves.Move.TheVariants.{Accept}
use Rattle.yr_moves.specs.Walks.{IsBest}
use Rattle.yr_walks.specs.declared.carried.Carried.{Carried}
use Rattle.yr_walks.specs.Carried.{Shown, Holds, AreBelow, Falls, IsNoWorse}
use Rattle.yr_walks.specs.Arcs.{Joins, Stays}
use Rattle.yr_walks.specs.Spreads.{HoldsAs, AreClosed}

-- what was told at a place: the best end of a span that reads a byte before the place, and of one that reads none
pub record Told : Type 0 where
  pub at : ℕ
  pub near : Option ℕ
  pub far : Option ℕ

-- this end was told at the place for spans that read a byte before it
abbrev pub Tells : List Told → (a j : ℕ) → Type 0
Tells told a j = (q : ℕ) × (t : Told) × (slice_get told q ≡ Some t) × (t.at ≡ a) × (t.near ≡ Some j)

-- a walk down over the places of a file; those from `place` on are done
pub record Walk : Type 0 where
  pub moves : List MoveRow
  pub sets : List (List ℕ)
  pub file : List ℕ
  pub greedy : Bool
  pub place : ℕ

-- k moves lead down from move m at place i to move e at place j
abbrev pub RunsDown : Walk → (k m i e j : ℕ) → Type 0
RunsDown walk k m i e j = Run (ReadsBackwards walk.file) walk.sets walk.file walk.moves k m i e j

-- an end that was told above place i comes down to move m there
abbrev pub Reaches : Walk → List Told → (i m j : ℕ) → Type 0
Reaches walk told i m j = (a : ℕ) × (k : ℕ) × (i < a) × Tells told a j × RunsDown walk k 0 a m i

-- the program accepts from place i up to a place above it at which this end was told
abbrev pub StartsBelow : Walk → List Told → (i j : ℕ) → Type 0
StartsBelow walk told i j = (e : ℕ) × Reaches walk told i e j × (move_at walk.moves e ≡ Some Accept)

-- the program accepts without a byte at place i, and this end is told for such spans
abbrev pub StartsHere : Walk → (far : Option ℕ) → (i j : ℕ) → Type 0
StartsHere walk far i j = (far ≡ Some j) × (k : ℕ) × (e : ℕ) × RunsDown walk k 0 i e i × (move_at walk.moves e ≡ Some Accept)

-- a span from place i has this end
abbrev pub StartsAt : Walk → List Told → (far : Option ℕ) → (i j : ℕ) → Type 0
StartsAt walk told far i j = StartsBelow walk told i j ⊎ StartsHere walk far i j

-- the best end, or none
abbrev pub IsBestOf : (greedy : Bool) → (ℕ → Type 0) → Option ℕ → Type 0
IsBestOf greedy P end = MatchOption end ((j : ℕ) → P j → ⊥) (IsBest greedy P)

-- the moves to which ends from above came down, each with the best; the number of moves stands for Accept
pub record AreCarried (walk : Walk) (told : List Told) (i : ℕ) (items : List Carried) : Type 0 where
  pub sound : (m j : ℕ) → m < length walk.moves → Holds items m j → Reaches walk told i m j
  pub accepts : (j : ℕ) → Holds items (length walk.moves) j → StartsBelow walk told i j
  pub complete : (a j k e o : ℕ) → i < a → o ≤ i → Tells told a j → RunsDown walk k 0 a e o → move_at walk.moves e ≡ Some Accept
      → (m : ℕ) × (l : ℕ) × HoldsAs walk.greedy j items m × RunsDown walk l m i e o

-- the moves to which move 0 leads at the place, with the end that is told there
pub record AreOwn (walk : Walk) (near : Option ℕ) (i : ℕ) (items : List Carried) : Type 0 where
  pub sound : (m j : ℕ) → Holds items m j → (near ≡ Some j) × (k : ℕ) × Stays false walk.moves walk.sets walk.file i k 0 m
  pub first : (j : ℕ) → near ≡ Some j → Holds items 0 j

-- all members carry one end
abbrev pub AreAlike : List Carried → Type 0
AreAlike items = (q q' : ℕ) (c c' : Carried) → slice_get items q ≡ Some c → slice_get items q' ≡ Some c' → c.end ≡ c'.end

-- what the members lead to at the walk's place without a byte are members
abbrev pub AreShut : Walk → List Carried → Type 0
AreShut walk items = AreClosed false walk.moves walk.sets walk.file walk.place walk.greedy (length items) items

-- the ends of two lists came over the byte to place i
pub record Merges (moves : List MoveRow) (sets : List (List ℕ)) (file : List ℕ) (i b : ℕ) (greedy : Bool) (carried own new : List Carried) : Type 0 where
  pub falls : Falls greedy new
  pub closed : AreClosed false moves sets file i greedy (length new) new
  pub reached : (x j y : ℕ) → Holds carried x j ⊎ Holds own x j → Joins false moves sets file i (Some b) x y → HoldsAs greedy j new y
  pub only : (y j : ℕ) → Holds new y j → (x : ℕ) × (e : ℕ) × (k : ℕ) × (Holds carried x j ⊎ Holds own x j)
      × Joins false moves sets file i (Some b) x e × Stays false moves sets file i k e y

-- of two ends the better
pub record IsBetter (greedy : Bool) (left right better : Option ℕ) : Type 0 where
  pub one : (better ≡ left) ⊎ (better ≡ right)
  pub first : (j : ℕ) → left ≡ Some j → (o : ℕ) × (better ≡ Some o) × IsNoWorse greedy o j
  pub second : (j : ℕ) → right ≡ Some j → (o : ℕ) × (better ≡ Some o) × IsNoWorse greedy o j

-- an end, where there is another
abbrev pub only_with : Option ℕ → Option ℕ → Option ℕ
only_with None far = None
only_with (Some j) far = far

-- what a walk keeps: the moves to which ends came from above, and those to which the end of its place leads
pub record Kept : Type 0 where
  pub carried : Shown
  pub own : Shown

-- the marks have room for so many moves
abbrev pub HasRoom : ℕ → Kept → Type 0
HasRoom n marks = (n ≤ marks.carried.room) × (n ≤ marks.own.room)

-- the walk can go on with these marks
pub record IsReadyFor (walk : Walk) (marks : Kept) : Type 0 where
  pub wellformed : AreWellformedMoves walk.moves walk.sets
  pub place : walk.place ≤ length walk.file + 1
  pub room : HasRoom (length walk.moves + 1) marks
  pub below : AreBelow (length walk.moves + 1) marks.carried.items × AreBelow (length walk.moves + 1) marks.own.items
  pub falls : Falls walk.greedy marks.carried.items
  pub alike : AreAlike marks.own.items
  pub shut : AreShut walk marks.carried.items × AreShut walk marks.own.items

-- the marks are as the walk left them, after so much was told
pub record IsMidway (walk : Walk) (told : List Told) (marks : Kept) : Type 0 where
  pub inside : (a j : ℕ) → Tells told a j → (walk.place ≤ a) × (a ≤ length walk.file)
  pub carried : AreCarried walk told walk.place marks.carried.items
  pub near : Option ℕ
  pub is_near : (j : ℕ) → Tells told walk.place j → near ≡ Some j
  pub tells_near : (j : ℕ) → near ≡ Some j → Tells told walk.place j
  pub own : AreOwn walk near walk.place marks.own.items
