-- The items of a set, those without a `*` and those with one apart.
use Rattle.std.specs.Prelude.{◌≡◌, List, [], ◌∷◌, if◌then◌else◌}
use Rattle.std.specs.List.{flat_map}
use Rattle.yr_syntax.specs.Condition.{ItemTree}
use Rattle.yr_name_tables.specs.Names.{Name}

-- the name of an item without a `*`
abbrev pub whole_name : ItemTree → List Name
whole_name item = if item.wild then [] else item.name ∷ []

-- the front of an item with a `*`
abbrev pub front_name : ItemTree → List Name
front_name item = if item.wild then item.name ∷ [] else []

-- these are the items without a `*` and the fronts of those with one
abbrev pub AreApart : List ItemTree → List Name → List Name → Type 0
AreApart items wholes fronts = (wholes ≡ flat_map whole_name items) × (fronts ≡ flat_map front_name items)
