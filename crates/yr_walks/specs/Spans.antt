-- The spans of one split, whose sides are programs: nothing is the program that accepts at once.
use Rattle.std.specs.Prelude.{◌≡◌, ℕ, ◌+◌, ◌<◌, ◌≤◌, IsTrue, List, Some, slice_get}
use Rattle.yr_base.specs.Places.{has_left_border}
use Rattle.yr_rows.specs.Accepts.{AcceptsBackwards}
use Rattle.yr_moves.specs.Walks.{IsBest, IsEnd}
use Rattle.yr_walks.specs.EndWalks as ends
use Rattle.yr_walks.specs.StartWalks as starts
use Rattle.yr_walks.specs.StartWalks.{Told, Tells}

-- the walk over the ends of the side after the atom, the walk over the starts of the side before it, and the atom's length
pub record Walk : Type 0 where
  pub ends : ends.Walk
  pub starts : starts.Walk
  pub atom : ℕ

-- the side after an atom that begins at place a ends at j, where the right border holds
abbrev pub IsEndOf : Walk → (a j : ℕ) → Type 0
IsEndOf walk a j = IsEnd walk.ends.moves walk.ends.sets walk.ends.file (a + walk.atom) (a + walk.atom) walk.ends.border j

-- an atom that begins at place a gives the span from i to j: it is not empty and has the border
abbrev pub IsSpan : Walk → (a i j : ℕ) → Type 0
IsSpan walk a i j = AcceptsBackwards walk.starts.moves walk.starts.sets walk.starts.file i a × IsEndOf walk a j × (i < j)
    × IsTrue (has_left_border walk.ends.border walk.ends.file i)

-- the place is one of these
abbrev pub IsAmong : List ℕ → ℕ → Type 0
IsAmong hits a = (q : ℕ) × (slice_get hits q ≡ Some a)

-- one of the atoms that begin at these places gives the span
abbrev pub IsCounted : Walk → List ℕ → (i j : ℕ) → Type 0
IsCounted walk hits i j = (a : ℕ) × IsAmong hits a × IsSpan walk a i j

-- the best end of each atom was told at its place
pub record AreTold (walk : Walk) (told : List Told) (hits : List ℕ) : Type 0 where
  pub sound : (a j : ℕ) → Tells told a j → IsAmong hits a × IsBest walk.ends.greedy (IsEndOf walk a) j
  pub complete : (a j : ℕ) → IsAmong hits a → IsEndOf walk a j → (o : ℕ) × Tells told a o

-- what a walk keeps
pub record Kept : Type 0 where
  pub ends : ends.Kept
  pub starts : starts.Kept

-- the walk can go on with these marks
pub record IsReadyFor (walk : Walk) (marks : Kept) : Type 0 where
  pub ends : ends.IsMidway walk.ends marks.ends
  pub starts : starts.IsReadyFor walk.starts marks.starts
  pub level : 0 < walk.starts.place → walk.ends.place ≡ walk.starts.place + walk.atom
  pub file : walk.starts.file ≡ walk.ends.file
  pub greedy : walk.starts.greedy ≡ walk.ends.greedy

-- the marks are as the walk left them, after these atoms
pub record IsMidway (walk : Walk) (hits : List ℕ) (marks : Kept) : Type 0 where
  pub told : List Told
  pub midway : starts.IsMidway walk.starts told marks.starts
  pub are : AreTold walk told hits
  pub inside : (a : ℕ) → IsAmong hits a → walk.starts.place ≤ a
