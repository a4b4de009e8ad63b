-- A map from names to where they stand first, and a list in which each name stands once.
use Rattle.std.specs.Prelude.{◌≡◌, ℕ, List, [], ◌∷◌, ◌++◌, is_some, if◌then◌else◌, bytes_eq}
use Rattle.std.specs.Borrow.{Bor}
use Rattle.std.specs.Map.{lookup}
use Rattle.yr_name_tables.specs.Names.{Name, has, place_of}

abbrev pub ArePlaces : List (Bor Name × ℕ) → List Name → Type 0
ArePlaces entries names = (q : Name) → lookup (λ k. bytes_eq q k.now) entries ≡ place_of q names

-- the name stands at the place, unless it stands earlier
abbrev pub IsPlaceAdded : List (Bor Name × ℕ) → Bor Name → ℕ → List (Bor Name × ℕ) → Type 0
IsPlaceAdded old k n new = new ≡ (if is_some (lookup (λ r. bytes_eq k.now r.now) old) then old else old ++ (k, n) ∷ [])

-- the list with the name at its end, unless it is there
abbrev pub with_name : Name → List Name → List Name
with_name n ms = if has n ms then ms else ms ++ n ∷ []
