-- The names of rules in source order.
use Rattle.std.specs.Prelude.{◌≡◌, ℕ, ◌+◌, List, [], ◌∷◌, length, slice_get, Option, Some, None}
use Rattle.std.specs.List.{flat_map}
use Rattle.yr_syntax.specs.Declaration.{Declaration}
use Rattle.yr_syntax.specs.Declaration as declaration
use Rattle.yr_checks.specs.Sources.{UnitTree}

-- the names of the rules among declarations
abbrev pub names_among : List Declaration → List (List ℕ)
names_among [] = []
names_among (declaration.Import name file n ∷ ds) = names_among ds
names_among (declaration.Rule r ∷ ds) = r.name ∷ names_among ds

-- the names of the rules of all units
abbrev pub all_names : List UnitTree → List (List ℕ)
all_names units = flat_map (λ u. names_among u.declarations) units

-- the name of a number, or how many numbers are left when the names end
abbrev pub Finds : List (List ℕ) → ℕ → ℕ → Option (List ℕ) → Type 0
Finds names before after (Some name) = slice_get names before ≡ Some name
Finds names before after None = before ≡ length names + after
