-- What walks over a file find of the hits of one split.
use Rattle.std.specs.Prelude.{◌≡◌, ℕ, ◌+◌, ◌-◌, ◌<◌, ◌≤◌, ◌↔◌, Bool, true, false, List, [], ◌∷◌, ◌++◌, Contains, Option, None, Some}
use Rattle.yr_rows.specs.Accepts.{AcceptsBackwards}
use Rattle.yr_answer.specs.MatchList.{Match, IsBest}
use Rattle.yr_walks.specs.EndWalks as ends
use Rattle.yr_walks.specs.StartWalks as starts
use Rattle.yr_walks.specs.StartWalks.{Told, Tells}
use Rattle.yr_walks.specs.Spans as spans
use Rattle.yr_hits.specs.declared.hit.Hit.{Hit}
use Rattle.yr_hits.specs.declared.hit.Ends.{Ends}
use Rattle.yr_hits.specs.Spans.{begin_of, StartsAt, EndsAt, IsBestOf, AreEnds}
use Rattle.yr_hits.specs.Sweeps.{hit_after, IsInside, SpansOf, SpansOfAll}

-- ---- ends from each place

-- the best ends that the walk finds from a place, and behind it, are those of the hit there
pub record IsEndWalkOf (hit : Hit) (walk : ends.Walk) : Type 0 where
  pub finds : (at : ℕ) (near far : Option ℕ) → IsInside hit at → ends.IsBestEnd walk at at near → ends.IsBestEnd walk at (at + 1) far
      → AreEnds (hit_after hit at) (record { near = near; far = far })

-- the spans of the hit after e bytes, where there is that hit
abbrev pub SpansIf : Bool → Hit → (e i j : ℕ) → Type 0
SpansIf there hit e i j = (there ≡ true) × SpansOf hit e i j

-- ---- ends told where atoms begin

-- the best ends of a hit that end a span which reads a byte before its atom, and one that reads none
pub record AreTold (hit : Hit) (ends : Ends) : Type 0 where
  pub near : IsBestOf hit.greatest (EndsAt hit) ends.near
  pub far : IsBestOf hit.greatest (λ j. EndsAt hit j × (begin_of hit < j)) ends.far

-- the walk reads the side before the atom of each hit, by where the atom begins
pub record IsStartWalkOf (hit : Hit) (walk : starts.Walk) : Type 0 where
  pub greedy : walk.greedy ≡ hit.greatest
  pub reads : (a i : ℕ) → IsInside hit (a + hit.row.atom_length)
      → (StartsAt (hit_after hit (a + hit.row.atom_length)) i) ↔ (AcceptsBackwards walk.moves walk.sets walk.file i a)

-- the best end of each hit whose atom begins from a place on was told
pub record WereTold (hit : Hit) (hits : List ℕ) (told : List Told) (place : ℕ) : Type 0 where
  pub sound : (a j : ℕ) → Tells told a j
      → Contains hits (a + hit.row.atom_length) × IsBest hit.greatest (EndsAt (hit_after hit (a + hit.row.atom_length))) j
  pub complete : (a j : ℕ) → Contains hits (a + hit.row.atom_length) → place ≤ a → EndsAt (hit_after hit (a + hit.row.atom_length)) j
      → (o : ℕ) × Tells told a o

-- what is told at a place: the ends of the hit whose atom begins there, or none
pub record IsToldHere (hit : Hit) (hits : List ℕ) (place : ℕ) (there : Bool) (ends : Ends) : Type 0 where
  pub into : there ≡ true → Contains hits (place + hit.row.atom_length)
  pub back : Contains hits (place + hit.row.atom_length) → there ≡ true
  pub told : there ≡ true → AreTold (hit_after hit (place + hit.row.atom_length)) ends
  pub nothing : there ≡ false → (ends.near ≡ None) × (ends.far ≡ None)

-- the marks are as the walk left them, after it was told of those
pub record IsMidStarts (hit : Hit) (hits : List ℕ) (walk : starts.Walk) (marks : starts.Kept) : Type 0 where
  pub told : List Told
  pub midway : starts.IsMidway walk told marks
  pub were : WereTold hit hits told walk.place

-- ---- spans of two programs

-- the spans that the walk counts are those of the hits, by where their atoms begin
pub record IsSpanWalkOf (hit : Hit) (walk : spans.Walk) : Type 0 where
  pub greedy : walk.ends.greedy ≡ hit.greatest
  pub counts : (a i j : ℕ) → IsInside hit (a + hit.row.atom_length) → (spans.IsSpan walk a i j) ↔ (SpansOf hit (a + hit.row.atom_length) i j)

-- the places at which a hit was told, from a place on
pub record AreAtoms (hit : Hit) (hits : List ℕ) (atoms : List ℕ) (place : ℕ) : Type 0 where
  pub into : (a : ℕ) → spans.IsAmong atoms a → Contains hits (a + hit.row.atom_length) × (place ≤ a)
  pub back : (a : ℕ) → Contains hits (a + hit.row.atom_length) → place ≤ a → spans.IsAmong atoms a

pub record IsMidSpans (hit : Hit) (hits : List ℕ) (walk : spans.Walk) (marks : spans.Kept) : Type 0 where
  pub atoms : List ℕ
  pub midway : spans.IsMidway walk atoms marks
  pub are : AreAtoms hit hits atoms walk.starts.place

-- ---- a list grows by one match

abbrev pub with_match : (start : ℕ) → Option ℕ → List Match → List Match
with_match start None list = list
with_match start (Some j) list = list ++ (start, j - start) ∷ []

-- the spans that begin at a place
abbrev pub SpansAt : Hit → List ℕ → (place i j : ℕ) → Type 0
SpansAt hit hits place i j = SpansOfAll hit hits i j × (i ≡ place)
