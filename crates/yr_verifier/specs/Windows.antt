-- A window of external variables, and what is found of its names.
use Rattle.std.specs.Prelude.{◌≡◌, ℕ, ◌<◌, ◌≤◌, List, Option, Some, None}
use Rattle.yr_image.specs.Image.{Image}
use Rattle.yr_verifier.specs.Names.{name_at}
use Rattle.yr_verifier.specs.Tables.{Keeps}
use Rattle.yr_verifier.specs.declared.windows.WindowEnd.{WindowEnd}
use Rattle.yr_verifier.specs.declared.windows.WindowEnd.TheVariants as end_of

module _ (image : Image) where
  -- no two of a range have one name
  abbrev pub AreDistinct : (from to : ℕ) → Type 0
  AreDistinct from to = (j i : ℕ) → from ≤ j → j < i → i < to → name_at image j ≡ name_at image i → ⊥

  -- number k has the name of one before it, from a place on
  abbrev pub Repeats : (from k : ℕ) → Type 0
  Repeats from k = (j : ℕ) × (from ≤ j) × (j < k) × (name_at image j ≡ name_at image k)

  -- number i has the name of none in a range
  abbrev pub IsOther : (from to i : ℕ) → Type 0
  IsOther from to i = (j : ℕ) → from ≤ j → j < to → name_at image j ≡ name_at image i → ⊥

  -- where a window ends: the table has it, and its names are distinct; or its last name repeats one of it
  abbrev pub WindowEnds : (key : ℕ) (table : List ℕ) (from end : ℕ) → WindowEnd → Type 0
  WindowEnds key table from end (end_of.Before next) = (from < next) × (next ≤ end) × Keeps image key table from next × AreDistinct from next
  WindowEnds key table from end (end_of.Repeat k) = (k < end) × Repeats from k × AreDistinct from k

  -- the first from a window's end on that has a name of the window, None where none has
  abbrev pub FindsIn : (from to end : ℕ) → Option ℕ → Type 0
  FindsIn from to end None = (i : ℕ) → to ≤ i → i < end → IsOther from to i
  FindsIn from to end (Some k) = (to ≤ k) × (k < end) × Repeats from k × ((i : ℕ) → to ≤ i → i < k → IsOther from to i)

  -- what is known when the windows before a place are done: the names below a bound are none of theirs, and at the
  -- bound there is the end or a name that repeats one
  pub record AreDone (from bound end : ℕ) : Type 0 where
    pub inside : bound ≤ end
    pub other : (j i : ℕ) → j < from → j < i → i < bound → name_at image j ≡ name_at image i → ⊥
    pub repeats : bound < end → Repeats 0 bound
