-- Stacks, seen as lists from the top down.
use Rattle.std.specs.Prelude.{ℕ, ◌-◌, List, [], ◌∷◌, length, drop, Option, Some, None}

-- the stack down to a height
abbrev pub down_to : {A : Type 0} → (height : ℕ) → List A → List A
down_to height xs = drop (length xs - height) xs

-- the stack before its top was taken
abbrev pub popped : {A : Type 0} → Option A → List A → List A
popped (Some x) rest = x ∷ rest
popped None rest = []
