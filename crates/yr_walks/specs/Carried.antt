-- Moves with the ends that they carry, as a list in the order in which they came.
use Rattle.std.specs.Prelude.{◌≡◌, ℕ, ◌+◌, ◌<◌, ◌≤◌, ◌⊎◌, Bool, List, [], ◌∷◌, ◌++◌, length, Option, Some, None, slice_get}
use Rattle.std.specs.Bool.{MatchBool}
use Rattle.yr_walks.specs.declared.carried.Carried.{Carried}

-- the members, and below which number moves must be
pub record Shown : Type 0 where
  pub items : List Carried
  pub room : ℕ

-- the move is a member, and carries this end
abbrev pub Holds : List Carried → ℕ → ℕ → Type 0
Holds items m j = (q : ℕ) × (slice_get items q ≡ Some (record { by = m; end = j }))

-- each member is a move below n
abbrev pub AreBelow : ℕ → List Carried → Type 0
AreBelow n items = (m j : ℕ) → Holds items m j → m < n

-- the move is a member; if it was none, it carries this end; and all else is as before
abbrev pub Adds : Shown → Shown → ℕ → ℕ → Type 0
Adds old new m j =
    (new.room ≡ old.room)
    × (((i : ℕ) × Holds old.items m i × (new.items ≡ old.items)) ⊎ (new.items ≡ old.items ++ record { by = m; end = j } ∷ []))

-- how many moves carry no end
abbrev pub unseen : List (Option ℕ) → ℕ
unseen [] = 0
unseen (Some j ∷ ends) = unseen ends
unseen (None ∷ ends) = unseen ends + 1

-- what the fields keep: a list of which the first len are members, and for each move the end that it carries
pub record IsKept (list : List Carried) (len : ℕ) (ends : List (Option ℕ)) : Type 0 where
  pub size : length list ≡ length ends
  pub count : len + unseen ends ≡ length ends
  pub held : (q m j : ℕ) → q < len → slice_get list q ≡ Some (record { by = m; end = j }) → slice_get ends m ≡ Some (Some j)
  pub marked : (m j : ℕ) → slice_get ends m ≡ Some (Some j) → (q : ℕ) × (q < len) × (slice_get list q ≡ Some (record { by = m; end = j }))

-- one end is at least as good as another: greater, or less
abbrev pub IsNoWorse : (greatest : Bool) → ℕ → ℕ → Type 0
IsNoWorse greatest j o = MatchBool greatest (o ≤ j) (j ≤ o)

-- the ends get no better
abbrev pub Falls : (greatest : Bool) → List Carried → Type 0
Falls greatest items = (q q' : ℕ) (c c' : Carried) → q ≤ q' → slice_get items q ≡ Some c → slice_get items q' ≡ Some c' → IsNoWorse greatest c.end c'.end
