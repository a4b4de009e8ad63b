-- Hits that are taken one after another: the match lists grow by the spans of each, at once or later.
use Rattle.std.specs.Prelude.{◌≡◌, ℕ, ◌+◌, ◌^◌, ◌≤◌, ◌⊎◌, List, [], ◌∷◌, ◌++◌, length, Some, slice_get, slice_set}
use Rattle.yr_rows.specs.Nodes.{nodes_of, edges_of, outputs_of}
use Rattle.yr_answer.specs.MatchList.{Match}
use Rattle.yr_image.specs.declared.rows.SplitRow.{SplitRow}
use Rattle.yr_image.specs.declared.rows.StringRow.{StringRow}
use Rattle.yr_image.specs.Image.{Image}
use Rattle.yr_image.specs.Views.{shown_bytes, image_of}
use Rattle.yr_machine.specs.Wellformed.{IsWellformed}
use Rattle.yr_machine.specs.ImageMatches.{is_greatest}
use Rattle.yr_search.specs.declared.scene.Scene.{Scene}
use Rattle.yr_search.specs.State.{State}
use Rattle.yr_hits.specs.Gathering.{Grows}
use Rattle.yr_hits.specs.Spans.{IsSpanOfSome}

-- a wellformed image, and a file that is not too long
pub record IsGoodScene (scene : Scene) : Type 0 where
  pub wellformed : IsWellformed (shown_bytes scene.view.now)
  pub small : length scene.file.now ≤ 2 ^ 28
  pub nodes : nodes_of scene.automaton.nodes.now ≡ (image_of scene.view.now).nodes
  pub edges : edges_of scene.automaton.edges.now ≡ (image_of scene.view.now).edges
  pub outputs : outputs_of scene.automaton.outputs.now ≡ (image_of scene.view.now).outputs

-- the list of a split's string grows by the spans that some of these hits of the split give
pub record Adds (image : Image) (file : List ℕ) (split : ℕ) (hits : List ℕ) (old new : List (List Match)) : Type 0 where
  pub row : SplitRow
  pub is_row : slice_get image.splits split ≡ Some row
  pub string : StringRow
  pub is_string : slice_get image.strings row.string ≡ Some string
  pub list : List Match
  pub is_list : slice_get old row.string ≡ Some list
  pub grown : List Match
  pub is_new : new ≡ slice_set old row.string grown
  pub grows : Grows (IsSpanOfSome image file row hits) (is_greatest image file string) list grown

-- a hit of a split after e bytes gives its spans at once
pub record TakesNow (image : Image) (file : List ℕ) (e split : ℕ) (old new : State) : Type 0 where
  pub adds : Adds image file split (e ∷ []) old.lists new.lists
  pub later : new.later ≡ old.later

-- it is left for later
pub record Leaves (e split : ℕ) (old new : State) : Type 0 where
  pub hits : List ℕ
  pub is_hits : slice_get old.later split ≡ Some hits
  pub later : new.later ≡ slice_set old.later split (hits ++ e ∷ [])
  pub lists : new.lists ≡ old.lists

-- one of the two
abbrev pub Takes : Image → List ℕ → (e split : ℕ) → State → State → Type 0
Takes image file e split old new = TakesNow image file e split old new ⊎ Leaves e split old new

-- hits of splits after the same front, one after another
abbrev pub TakesAll : Image → List ℕ → (e : ℕ) → List ℕ → State → State → Type 0
TakesAll image file e [] old new = old ≡ new
TakesAll image file e (split ∷ splits) old new = (mid : State) × Takes image file e split old mid × TakesAll image file e splits mid new

-- the hits after each front from e on
abbrev pub TakesFronts : Image → List ℕ → (e : ℕ) → List (List ℕ) → State → State → Type 0
TakesFronts image file e [] old new = old ≡ new
TakesFronts image file e (splits ∷ fronts) old new =
    (mid : State) × TakesAll image file e splits old mid × TakesFronts image file (e + 1) fronts mid new

-- the hits that were left for later, of the splits from the first one on: those of the last split are taken first
abbrev pub TakesLater : Image → List ℕ → (first : ℕ) → List (List ℕ) → List (List Match) → List (List Match) → Type 0
TakesLater image file first [] old new = old ≡ new
TakesLater image file first (hits ∷ later) old new =
    (mid : List (List Match)) × TakesLater image file (first + 1) later old mid × Adds image file first hits mid new
