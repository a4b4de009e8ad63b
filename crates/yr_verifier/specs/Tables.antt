-- A table of external variables by the hashes of their names. A place has 0 where it is free, and else the number of the
-- variable and 1. A variable stands at the first place that was free from the slot of its name on.
use Rattle.std.specs.Prelude.{◌≡◌, ◌≢◌, ℕ, ◌+◌, ◌-◌, ◌<◌, ◌≤◌, List, length, slice_index}
use Rattle.yr_image.specs.Image.{Image}
use Rattle.yr_verifier.specs.Names.{name_at}
use Rattle.yr_verifier.specs.Hashes.{slot_of}
use Rattle.yr_verifier.specs.declared.table.Place.{Place}
use Rattle.yr_verifier.specs.declared.table.Place.TheVariants as place

-- no place from one to another is free
abbrev pub AreTaken : (table : List ℕ) → (from to : ℕ) → Type 0
AreTaken table from to = (v : ℕ) → from ≤ v → v < to → slice_index table v ≢ 0

abbrev pub AreFree : List ℕ → Type 0
AreFree table = (v : ℕ) → slice_index table v ≡ 0

-- variable j of an image stands in the table
pub record Stands (image : Image) (key : ℕ) (table : List ℕ) (j : ℕ) : Type 0 where
  pub at : ℕ
  pub after : slot_of key (name_at image j) ≤ at
  pub inside : at < length table
  pub here : slice_index table at ≡ j + 1
  pub before : AreTaken table (slot_of key (name_at image j)) at

-- the variables of a range stand in the table, and no others
pub record Keeps (image : Image) (key : ℕ) (table : List ℕ) (from to : ℕ) : Type 0 where
  pub all : (j : ℕ) → from ≤ j → j < to → Stands image key table j
  pub others : (v : ℕ) → slice_index table v ≢ 0 → (from < slice_index table v) × (slice_index table v ≤ to)

-- no place from one to another is free or has this name
abbrev pub Passes : Image → (table : List ℕ) → (name : List ℕ) → (from to : ℕ) → Type 0
Passes image table name from to = (v : ℕ) → from ≤ v → v < to → (slice_index table v ≢ 0) × (name_at image (slice_index table v - 1) ≢ name)

-- what a search from a slot on finds
abbrev pub Found : Image → (table : List ℕ) → (name : List ℕ) → (slot : ℕ) → Place → Type 0
Found image table name slot place.Taken = (v : ℕ) × (slice_index table v ≢ 0) × (name_at image (slice_index table v - 1) ≡ name)
Found image table name slot (place.Free at) = (slot ≤ at) × (at < length table) × (slice_index table at ≡ 0) × Passes image table name slot at
Found image table name slot place.Nowhere = Passes image table name slot (length table)
