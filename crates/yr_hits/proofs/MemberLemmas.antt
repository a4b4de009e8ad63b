-- Members of a list.
use Rattle.std.proofs.Common.{◌≡◌, ℕ, zero, suc, ◌<◌, ◌⊎◌, inl, inr, List, [], ◌∷◌, Contains, refl, arith}

pub contains_first : {X : Type 0} (x : X) (xs : List X) → Contains (x ∷ xs) x
contains_first x xs = (0, omega arith, refl)

pub contains_later : {X : Type 0} (y x : X) (xs : List X) → Contains xs x → Contains (y ∷ xs) x
contains_later y x xs h = (suc h.0, omega (arith, h.1), h.2)

pub contains_none : {X : Type 0} (x : X) → Contains [] x → ⊥
contains_none x h = omega (arith, h.1)

pub contains_cases : {X : Type 0} (y x : X) (xs : List X) → Contains (y ∷ xs) x → (y ≡ x) ⊎ Contains xs x
contains_cases {X} y x xs (zero, lt, is) = inl is
contains_cases {X} y x xs (suc k, lt, is) = inr (k, omega (arith, lt), is)
