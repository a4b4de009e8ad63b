-- What one move does at a place, and what a whole place of a search does. `byte` is the byte that the program would read there.
use Rattle.std.specs.Prelude.{◌≡◌, ℕ, zero, suc, ◌<◌, ◌⊎◌, Bool, true, IsTrue, List, ◌++◌, Option, Some, slice_get, Contains}
use Rattle.yr_rows.specs.Moves.{move_at}
use Rattle.yr_rows.specs.Accepts.{HasByte, holds}
use Rattle.yr_rows.specs.declared.moves.MoveRow.{MoveRow}
use Rattle.yr_rows.specs.declared.moves.Move.{Move}
use Rattle.yr_rows.specs.declared.moves.Move.TheVariants.{Accept, Set, Fork, Test}

-- the list begins with the other
abbrev pub Extends : List ℕ → List ℕ → Type 0
Extends old new = (rest : List ℕ) × (new ≡ old ++ rest)

-- the move leads to move m at the same place
abbrev pub LeadsHere : List ℕ → ℕ → Move → ℕ → Type 0
LeadsHere file i Accept m = ⊥
LeadsHere file i (Set next set) m = ⊥
LeadsHere file i (Fork next other) m = (m ≡ next) ⊎ (m ≡ other)
LeadsHere file i (Test assertion next) m = (m ≡ next) × IsTrue (holds assertion file i)

-- the move leads to move m over the byte
abbrev pub LeadsOver : List (List ℕ) → Option ℕ → Move → ℕ → Type 0
LeadsOver sets byte Accept m = ⊥
LeadsOver sets byte (Set next set) m =
    (m ≡ next) × (bits : List ℕ) × (slice_get sets set ≡ Some bits) × (b : ℕ) × (byte ≡ Some b) × HasByte bits b
LeadsOver sets byte (Fork next other) m = ⊥
LeadsOver sets byte (Test assertion next) m = ⊥

-- all that the move leads to joins the moves that stand here, or those at the next place, and nothing else does
pub record Visits (sets : List (List ℕ)) (file : List ℕ) (i : ℕ) (byte : Option ℕ) (v : Move) (now now' on on' : List ℕ) (found : Bool) : Type 0 where
  pub grows : Extends now now'
  pub grows_on : Extends on on'
  pub here : (x : ℕ) → LeadsHere file i v x → Contains now' x
  pub over : (x : ℕ) → LeadsOver sets byte v x → Contains on' x
  pub accepts : v ≡ Accept → found ≡ true
  pub only_here : (x : ℕ) → Contains now' x → Contains now x ⊎ LeadsHere file i v x
  pub only_over : (x : ℕ) → Contains on' x → Contains on x ⊎ LeadsOver sets byte v x
  pub only_accepts : found ≡ true → v ≡ Accept

-- k moves that read no byte lead from move m to move e
abbrev pub Stays : List MoveRow → List ℕ → ℕ → ℕ → ℕ → ℕ → Type 0
Stays moves file i zero m e = m ≡ e
Stays moves file i (suc k) m e = (v : Move) × (m1 : ℕ) × (move_at moves m ≡ Some v) × LeadsHere file i v m1 × Stays moves file i k m1 e

-- a move that stands at the place leads there to this one
abbrev pub StandsHere : List MoveRow → List ℕ → ℕ → List ℕ → ℕ → Type 0
StandsHere moves file i start e = (m : ℕ) × (k : ℕ) × Contains start m × Stays moves file i k m e

-- found, exactly where a move that stands here leads to Accept; and at the next place stands all that is led to over the byte
pub record Passes (moves : List MoveRow) (sets : List (List ℕ)) (file : List ℕ) (i : ℕ) (byte : Option ℕ) (start on : List ℕ) (found : Bool) : Type 0 where
  pub accepts : (e : ℕ) → StandsHere moves file i start e → move_at moves e ≡ Some Accept → found ≡ true
  pub over : (e : ℕ) (v : Move) (x : ℕ) → StandsHere moves file i start e → move_at moves e ≡ Some v → LeadsOver sets byte v x → Contains on x
  pub only_accepts : found ≡ true → (e : ℕ) × StandsHere moves file i start e × (move_at moves e ≡ Some Accept)
  pub only_over : (x : ℕ) → Contains on x → (e : ℕ) × (v : Move) × StandsHere moves file i start e × (move_at moves e ≡ Some v) × LeadsOver sets byte v x

-- each member is a move of a program of n moves
abbrev pub AreBelow : ℕ → List ℕ → Type 0
AreBelow n members = (x : ℕ) → Contains members x → x < n
