-- How ends spread from moves to those that they are joined to, at one place.
use Rattle.std.specs.Prelude.{◌≡◌, ℕ, suc, ◌<◌, ◌≤◌, ◌⊎◌, Bool, List, ◌++◌, length, Option, Some, None, slice_get, if◌then◌else◌}
use Rattle.yr_rows.specs.declared.moves.MoveRow.{MoveRow}
use Rattle.yr_walks.specs.declared.carried.Carried.{Carried}
use Rattle.yr_walks.specs.Carried.{Holds, IsNoWorse, Falls}
use Rattle.yr_walks.specs.Arcs.{Joins, Stays, Opens, tail}
use Rattle.yr_rows.specs.declared.moves.Move.{Move}

-- the list got more members, each with this end
abbrev pub Grows : (end : ℕ) → List Carried → List Carried → Type 0
Grows end old new =
    (rest : List Carried) × (new ≡ old ++ rest) × ((q : ℕ) (c : Carried) → slice_get rest q ≡ Some c → c.end ≡ end)

-- no member has a worse end than this
abbrev pub HasFloor : (greatest : Bool) → (end : ℕ) → List Carried → Type 0
HasFloor greatest end items = (m o : ℕ) → Holds items m o → IsNoWorse greatest o end

-- the move is a member, with an end that is no worse than this
abbrev pub HoldsAs : (greatest : Bool) → (end : ℕ) → List Carried → ℕ → Type 0
HoldsAs greatest end items y = (o : ℕ) × Holds items y o × IsNoWorse greatest o end

-- an arc of move v is followed: where the move leads on, the arc's tail is a member; nothing else came
pub record Follows (back : Bool) (n : ℕ) (sets : List (List ℕ)) (file : List ℕ) (i : ℕ) (byte : Option ℕ) (e : ℕ) (v : Move) (end : ℕ) (old new : List Carried) : Type 0 where
  pub grows : Grows end old new
  pub came : (y : ℕ) → Opens sets file i v byte → tail back n e v ≡ Some y → (o : ℕ) × Holds new y o
  pub only : (y o : ℕ) → Holds new y o → Holds old y o ⊎ ((o ≡ end) × Opens sets file i v byte × (tail back n e v ≡ Some y))

-- below which number the moves are that are joined
abbrev pub bound : (back : Bool) → ℕ → ℕ
bound back n = if back then n else suc n

module _ (back : Bool) (moves : List MoveRow) (sets : List (List ℕ)) (file : List ℕ) (i : ℕ) where
  -- each move that x is joined to is a member, and those that were none carry this end; nothing else came
  pub record Spreads (byte : Option ℕ) (x end : ℕ) (old new : List Carried) : Type 0 where
    pub grows : Grows end old new
    pub all : (y : ℕ) → Joins back moves sets file i byte x y → (o : ℕ) × Holds new y o
    pub only : (y o : ℕ) → Holds new y o → Holds old y o ⊎ ((o ≡ end) × Joins back moves sets file i byte x y)

  -- what the first k members are joined to without a byte are members, with ends that are no worse
  abbrev pub AreClosed : (greatest : Bool) → (k : ℕ) → List Carried → Type 0
  AreClosed greatest k items = (q : ℕ) (c : Carried) (y : ℕ) → q < k → slice_get items q ≡ Some c
      → Joins back moves sets file i None c.by y → HoldsAs greatest c.end items y

  -- members came by steps that read no byte from those that were there
  abbrev pub CameFrom : List Carried → List Carried → Type 0
  CameFrom old new = (y o : ℕ) → Holds new y o → (x : ℕ) × (k : ℕ) × Holds old x o × Stays back moves sets file i k x y

  -- the members can take the ends of another list from place k of it on
  pub record IsReady (greatest : Bool) (old : List Carried) (k : ℕ) (items : List Carried) : Type 0 where
    pub falls : Falls greatest items
    pub closed : AreClosed greatest (length items) items
    pub floor : (q : ℕ) (c : Carried) → k ≤ q → slice_get old q ≡ Some c → HasFloor greatest c.end items

  -- over the byte each of the old members between the two places brought its end
  pub record Carries (b : ℕ) (old : List Carried) (from to : ℕ) (before after : List Carried) : Type 0 where
    pub ready : (greatest : Bool) → Falls greatest old → IsReady greatest old from before → IsReady greatest old to after
    pub keeps : (m o : ℕ) → Holds before m o → Holds after m o
    pub reached : (greatest : Bool) → Falls greatest old → IsReady greatest old from before
        → (q : ℕ) (c : Carried) (y : ℕ) → from ≤ q → q < to → slice_get old q ≡ Some c
        → Joins back moves sets file i (Some b) c.by y → HoldsAs greatest c.end after y
    pub only : (y o : ℕ) → Holds after y o → ((x : ℕ) × (k : ℕ) × Holds before x o × Stays back moves sets file i k x y)
        ⊎ ((x : ℕ) × (e : ℕ) × (k : ℕ) × (q : ℕ) × (from ≤ q) × (q < to) × (slice_get old q ≡ Some (record { by = x; end = o }))
        × Joins back moves sets file i (Some b) x e × Stays back moves sets file i k e y)
