-- A match list that grows by the spans of many hits of one split.
use Rattle.std.specs.Prelude.{◌≡◌, ℕ, ◌+◌, ◌*◌, ◌<◌, ◌≤◌, List, length, Contains, Some, slice_get, slice_index}
use Rattle.yr_answer.specs.MatchList.{Match}
use Rattle.yr_image.specs.declared.rows.SplitRow.{SplitRow}
use Rattle.yr_image.specs.declared.rows.StringRow.{StringRow}
use Rattle.yr_image.specs.Image.{Image}
use Rattle.yr_image.specs.Views.{image_of}
use Rattle.yr_machine.specs.ImageMatches.{is_greatest}
use Rattle.yr_hits.specs.declared.hit.Hit.{Hit}
use Rattle.yr_hits.specs.Gathering.{Grows}
use Rattle.yr_hits.specs.Spans.{HasAtomWithin, IsSpan, IsSpanOfSome}

-- hits of a split lie in the file, each behind a whole atom
abbrev pub AreHitsOf : Image → List ℕ → (split : ℕ) → List ℕ → Type 0
AreHitsOf image file split hits = (e : ℕ) → Contains hits e → (e ≤ length file) × HasAtomWithin image e split

-- a list grows by the spans that some of these hits of a split give
pub record Sweeps (image : Image) (file : List ℕ) (split : ℕ) (hits : List ℕ) (old new : List Match) : Type 0 where
  pub row : SplitRow
  pub is_row : slice_get image.splits split ≡ Some row
  pub string : StringRow
  pub is_string : slice_get image.strings row.string ≡ Some string
  pub grows : Grows (IsSpanOfSome image file row hits) (is_greatest image file string) old new

-- ---- hits of the split of one hit

-- the hit of the same split after e bytes
abbrev pub hit_after : Hit → ℕ → Hit
hit_after hit e = record hit { at = e }

-- there is a whole atom before e bytes of the file
abbrev pub IsInside : Hit → ℕ → Type 0
IsInside hit e = (e ≤ length hit.file.now) × (hit.row.atom_length ≤ e)

abbrev pub AreHits : Hit → List ℕ → Type 0
AreHits hit hits = (e : ℕ) → Contains hits e → IsInside hit e

-- the spans of the hit after e bytes
abbrev pub SpansOf : Hit → (e i j : ℕ) → Type 0
SpansOf hit e = IsSpan (image_of hit.view.now) hit.file.now hit.row e

-- the spans of these hits
abbrev pub SpansOfAll : Hit → List ℕ → (i j : ℕ) → Type 0
SpansOfAll hit hits = IsSpanOfSome (image_of hit.view.now) hit.file.now hit.row hits

-- the spans of the hits from the k-th on
abbrev pub SpansOfRest : Hit → List ℕ → (k i j : ℕ) → Type 0
SpansOfRest hit hits k i j = (q : ℕ) × (k ≤ q) × (q < length hits) × SpansOf hit (slice_index hits q) i j

-- the spans of the hits after at least so many bytes
abbrev pub SpansOfLater : Hit → List ℕ → (least i j : ℕ) → Type 0
SpansOfLater hit hits least i j = (e : ℕ) × Contains hits e × SpansOf hit e i j × (least ≤ e)

-- the spans that begin from a place on
abbrev pub SpansFrom : Hit → List ℕ → (place i j : ℕ) → Type 0
SpansFrom hit hits place i j = SpansOfAll hit hits i j × (place ≤ i)

-- of these numbers in order, so many are less than this
pub record IsCountBelow (hits : List ℕ) (least count : ℕ) : Type 0 where
  pub inside : count ≤ length hits
  pub below : (q : ℕ) → q < count → slice_index hits q < least
  pub behind : (q : ℕ) → count ≤ q → q < length hits → least ≤ slice_index hits q

-- what was counted so far, where each place and each hit that is left has its share
abbrev pub IsPaid : (each top per count : ℕ) → (place left before now : ℕ) → Type 0
IsPaid each top per count place left before now = now + each * place + per * left ≤ before + each * top + per * count
