-- Fronts that a name begins with.
use Rattle.std.specs.Prelude.{◌≡◌, ◌&&◌, ◌||◌, true, List}
use Rattle.std.specs.List.{list_any}
use Rattle.yr_name_tables.specs.Names.{Name, has, means}

-- of the fronts, those that one of the names begins with
abbrev pub AreMet : List Name → List Name → List Name → Type 0
AreMet fronts names met = (f : Name) → has f met ≡ (has f fronts && list_any (means f true) names)

-- of the fronts, those that the name begins with are there too
abbrev pub MeetsFronts : List Name → Name → List Name → List Name → Type 0
MeetsFronts fronts name old new = (f : Name) → has f new ≡ (has f old || (has f fronts && means f true name))
