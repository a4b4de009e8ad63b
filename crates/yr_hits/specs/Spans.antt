-- The spans that one hit gives, by the two sides of its split.
use Rattle.std.specs.Prelude.{◌≡◌, ℕ, ◌-◌, ◌^◌, ◌<◌, ◌≤◌, Bool, true, false, List, length, Contains, MatchOption, Option, Some, slice_get}
use Rattle.yr_base.specs.declared.border.Border.{Border}
use Rattle.yr_base.specs.Places.{has_left_border, has_right_border}
use Rattle.yr_answer.specs.MatchList.{IsBest}
use Rattle.yr_image.specs.declared.rows.SplitRow.{SplitRow}
use Rattle.yr_image.specs.Image.{Image}
use Rattle.yr_image.specs.Views.{shown_bytes, image_of}
use Rattle.yr_machine.specs.Rows.{is_good_split}
use Rattle.yr_machine.specs.Wellformed.{IsWellformed}
use Rattle.yr_machine.specs.ImageMatches.{Side, side_of, border_of, SideSpans, HitSpans}
use Rattle.yr_hits.specs.declared.hit.Hit.{Hit}
use Rattle.yr_hits.specs.declared.hit.Ends.{Ends}

-- a span that a hit of a split after e bytes gives, and that counts
pub record IsSpan (image : Image) (file : List ℕ) (row : SplitRow) (e i j : ℕ) : Type 0 where
  pub spans : HitSpans image file row e i j
  pub longer : i < j
  pub border : Border
  pub border_is : border_of row.border ≡ Some border
  pub begins : has_left_border border file i ≡ true
  pub ends : has_right_border border file j ≡ true

-- where the atom of a hit begins
abbrev pub begin_of : Hit → ℕ
begin_of hit = hit.at - hit.row.atom_length

-- what a hit is of a wellformed image and a file that is not too long
pub record IsGoodHit (hit : Hit) : Type 0 where
  pub wellformed : IsWellformed (shown_bytes hit.view.now)
  pub small : length hit.file.now ≤ 2 ^ 28
  pub inside : hit.at ≤ length hit.file.now
  pub begins : hit.row.atom_length ≤ hit.at
  pub unused : ℕ
  pub good : is_good_split (image_of hit.view.now) unused hit.row ≡ true
  pub border_is : border_of hit.row.border ≡ Some hit.border

-- the side before the atom leads from i to where the atom begins
abbrev pub StartsAt : Hit → ℕ → Type 0
StartsAt hit i =
    (side : Side) × (side_of (image_of hit.view.now) hit.row.before_kind hit.row.before_place hit.row.before_length ≡ Some side)
    × SideSpans (image_of hit.view.now) hit.file.now true hit.row side i (begin_of hit)

-- the side after the atom leads from its end to j
abbrev pub LeadsTo : Hit → ℕ → Type 0
LeadsTo hit j =
    (side : Side) × (side_of (image_of hit.view.now) hit.row.after_kind hit.row.after_place hit.row.after_length ≡ Some side)
    × SideSpans (image_of hit.view.now) hit.file.now false hit.row side hit.at j

-- it does, and the right border holds there
abbrev pub EndsAt : Hit → ℕ → Type 0
EndsAt hit j = LeadsTo hit j × (has_right_border hit.border hit.file.now j ≡ true)

-- a span of the hit that counts
abbrev pub IsSpanOf : Hit → ℕ → ℕ → Type 0
IsSpanOf hit i j = StartsAt hit i × (has_left_border hit.border hit.file.now i ≡ true) × EndsAt hit j × (i < j)

-- such a span from a given start
abbrev pub IsSpanFrom : Hit → ℕ → ℕ → ℕ → Type 0
IsSpanFrom hit start i j = (i ≡ start) × IsSpanOf hit i j

-- the one place that has the property, or that none has
abbrev pub IsOnly : (ℕ → Type 0) → Option ℕ → Type 0
IsOnly P found = MatchOption found ((i : ℕ) → P i → ⊥) (λ s. P s × ((i : ℕ) → P i → i ≡ s))

-- the best place that has the property, or that none has
abbrev pub IsBestOf : (greatest : Bool) → (ℕ → Type 0) → Option ℕ → Type 0
IsBestOf greatest P found = MatchOption found ((j : ℕ) → P j → ⊥) (IsBest greatest P)

-- the best ends of a hit: from the atom's end on, and, where the atom is empty, past it
pub record AreEnds (hit : Hit) (ends : Ends) : Type 0 where
  pub near : IsBestOf hit.greatest (EndsAt hit) ends.near
  pub far : hit.row.atom_length ≡ 0 → IsBestOf hit.greatest (λ j. EndsAt hit j × (hit.at < j)) ends.far

-- the atom of a split is no longer than this
abbrev pub HasAtomWithin : Image → (at split : ℕ) → Type 0
HasAtomWithin image at split = (row : SplitRow) → slice_get image.splits split ≡ Some row → row.atom_length ≤ at

-- a span that some of these hits of a split give, each after so many bytes
abbrev pub IsSpanOfSome : Image → List ℕ → SplitRow → (hits : List ℕ) → (i j : ℕ) → Type 0
IsSpanOfSome image file row hits i j = (e : ℕ) × Contains hits e × IsSpan image file row e i j
