-- The alphabetical order of names, and the places in it of the names that an item means.
use Rattle.std.specs.Prelude.{◌≡◌, ℕ, ◌<◌, ◌≤◌, ◌+◌, Bool, true, false, ◌&&◌, List, [], ◌∷◌, if◌then◌else◌, length, take, slice_index, slice_index_or, nat_le, nat_lt, All}
use Rattle.std.specs.List.{list_any, range_with_len}
use Rattle.std.specs.List.Sorted.{IsPermutation}
use Rattle.std.specs.declared.cmp.Ordering.{Ordering}
use Rattle.std.specs.declared.cmp.Ordering.TheVariants.{Less, Equal, Greater}
use Rattle.std.specs.Ordering.{is_gt, nat_cmp}
use Rattle.std.specs.Cmp.Lexicographic.{slice_cmp}
use Rattle.yr_syntax.specs.Condition.{ItemTree}
use Rattle.yr_name_tables.specs.Names.{Name, means, is_meant}
use Rattle.yr_name_tables.specs.declared.ranges.Range.{Range}

-- the name with the number
abbrev pub name_at : List Name → ℕ → Name
name_at names k = slice_index_or names k []

-- the first name does not come after the second in the alphabet
abbrev pub Ascends : Name → Name → Type 0
Ascends m n = is_gt (slice_cmp nat_cmp m n) ≡ false

-- the numbers of the first names, as many as there are numbers, in the alphabetical order of those names; the last names may be missing
pub record IsOrder (order : List ℕ) (names : List Name) : Type 0 where
  pub numbers : IsPermutation (range_with_len 0 (length order)) order
  pub within : length order ≤ length names
  pub ascending : (i j : ℕ) → i ≤ j → j < length order → Ascends (name_at names (slice_index order i)) (name_at names (slice_index order j))

-- how a name stands to those that an item means: before them, among them, or behind them
abbrev pub stands : Name → Bool → Name → Ordering
stands front true n = slice_cmp nat_cmp (take (length front) n) front
stands front false n = slice_cmp nat_cmp n front

-- before them, or with `through` also among them
abbrev pub precedes : Bool → Ordering → Bool
precedes through Less = true
precedes through Equal = through
precedes through Greater = false

-- whether a name comes before those that an item means, or with `through` is one of them
abbrev pub comes_before : Name → Bool → Bool → Name → Bool
comes_before front wild through n = precedes through (stands front wild n)

-- so it is of the names at the places below this one, and of no other
abbrev pub IsPlace : List ℕ → List Name → Name → Bool → Bool → ℕ → Type 0
IsPlace order names front wild through at = (k : ℕ) → k < length order → comes_before front wild through (name_at names (slice_index order k)) ≡ nat_lt k at

-- whether the range has the place
abbrev pub covers : Range → ℕ → Bool
covers range place = nat_le range.low place && nat_lt place range.high

-- whether one of the ranges has the place
abbrev pub is_covered : List Range → ℕ → Bool
is_covered ranges place = list_any (λ range. covers range place) ranges

-- the range has the places of the names that the item means, and no other place
pub record IsRange (order : List ℕ) (names : List Name) (front : Name) (wild : Bool) (range : Range) : Type 0 where
  pub within : range.high ≤ length order
  pub covers : (k : ℕ) → k < length order → covers range k ≡ means front wild (name_at names (slice_index order k))

-- the ranges have the places of the names that the items mean, and no other place
pub record AreRanges (order : List ℕ) (names : List Name) (items : List ItemTree) (ranges : List Range) : Type 0 where
  pub within : All (λ range. range.high ≤ length order) ranges
  pub covered : (k : ℕ) → k < length order → is_covered ranges k ≡ is_meant items (name_at names (slice_index order k))

-- what stands at the places that pass, of a list that begins at this place
abbrev pub kept : {A : Type 0} → (ℕ → Bool) → ℕ → List A → List A
kept passes place [] = []
kept passes place (x ∷ xs) = if passes place then x ∷ kept passes (place + 1) xs else kept passes (place + 1) xs
