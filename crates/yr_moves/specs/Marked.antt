-- A set of moves that is seen as the list of its members in the order in which they came.
use Rattle.std.specs.Prelude.{◌≡◌, ℕ, ◌+◌, ◌<◌, ◌⊎◌, Bool, true, false, List, [], ◌∷◌, ◌++◌, length, take, Some, slice_get, Contains, All}

-- the members, and for how many moves there is room
pub record Shown : Type 0 where
  pub items : List ℕ
  pub room : ℕ

-- how many flags are not set
abbrev pub unseen : List Bool → ℕ
unseen [] = 0
unseen (true ∷ seen) = unseen seen
unseen (false ∷ seen) = unseen seen + 1

-- what the fields keep: a list of which the first len are members, and a flag for each move
pub record IsKept (list : List ℕ) (len : ℕ) (seen : List Bool) : Type 0 where
  pub size : length list ≡ length seen
  pub count : len + unseen seen ≡ length seen
  pub below : All (λ m. m < length seen) (take len list)
  pub marked : (m : ℕ) → slice_get seen m ≡ Some true → Contains (take len list) m

-- the move is a member, and all else is as before
abbrev pub Adds : Shown → Shown → ℕ → Type 0
Adds old new m = (new.room ≡ old.room) × ((Contains old.items m × (new.items ≡ old.items)) ⊎ (new.items ≡ old.items ++ m ∷ []))
