-- What the code keeps of namespaces.
use Rattle.std.specs.Prelude.{◌≡◌, ℕ, ◌<◌, ◌≤◌, ◌++◌, List, [], ◌∷◌, map, filter, length, Some, slice_get, if◌then◌else◌, bytes_eq, false, true}
use Rattle.std.specs.List.{flat_map}
use Rattle.yr_name_tables.specs.Names.{Name}
use Rattle.yr_checking.specs.declared.space.Space.{Space}
use Rattle.yr_checks.specs.Checks.{wildcards}
use Rattle.yr_checks.specs.Given.{Given, rule_names}
use Rattle.yr_checks.specs.Sources.{Item, imported, is_in, number_of, rules_in}

-- a namespace: its imports, the names of its rules with their numbers, and the wildcards in their conditions
pub record SpaceTree : Type 0 where
  pub imports : List Name
  pub rules : List Name
  pub numbers : List ℕ
  pub fronts : List Name

abbrev pub space_shown : Space → SpaceTree
space_shown s = record { imports = s.imports; rules = s.rules; numbers = s.numbers.items; fronts = s.fronts }

abbrev pub no_space : SpaceTree
no_space = record { imports = []; rules = []; numbers = []; fronts = [] }

-- the first namespace of that name, or an empty one
abbrev pub found_space : Name → List Space → SpaceTree
found_space q [] = no_space
found_space q (s ∷ ss) = if bytes_eq q s.name then space_shown s else found_space q ss

-- with an import behind, and with a rule behind
abbrev pub with_import : Name → SpaceTree → SpaceTree
with_import n s = record s { imports = s.imports ++ n ∷ [] }

abbrev pub with_rule : Name → ℕ → List Name → SpaceTree → SpaceTree
with_rule n k fronts s = record s { rules = s.rules ++ n ∷ []; numbers = s.numbers ++ k ∷ []; fronts = s.fronts ++ fronts }

-- the place is that of the first namespace of that name, or past all of them
pub record IsFirstNamed (q : Name) (ss : List Space) (k : ℕ) : Type 0 where
  pub within : k ≤ length ss
  pub before : (j : ℕ) (s : Space) → j < k → slice_get ss j ≡ Some s → bytes_eq q s.name ≡ false
  pub here : (s : Space) → slice_get ss k ≡ Some s → bytes_eq q s.name ≡ true

-- what the definitions say of the namespace of that name
abbrev pub space_at : Given → List Item → Name → SpaceTree
space_at given seen q = record {
  imports = flat_map (imported q) seen;
  rules = rule_names (filter (is_in q) (rules_in seen));
  numbers = map number_of (filter (is_in q) (rules_in seen));
  fronts = flat_map (wildcards given) (filter (is_in q) (rules_in seen));
}
