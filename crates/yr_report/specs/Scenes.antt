-- What a report is made of, and which namespaces are shut.
use Rattle.std.specs.Prelude.{◌≡◌, ℕ, ◌≤◌, ◌<◌, ◌^◌, Bool, List, length, zip}
use Rattle.std.specs.Borrow.{Bor}
use Rattle.std.specs.List.{list_any}
use Rattle.std.specs.List.Sorted.{IsSorted}
use Rattle.std.specs.Ordering.{nat_cmp}
use Rattle.std.specs.Str.{bytes_eq}
use Rattle.std.specs.Cmp.Lexicographic.{slice_cmp}
use Rattle.yr_answer.specs.MatchList.{Match}
use Rattle.yr_answer.specs.Listing.{ListedRule}
use Rattle.yr_answer.specs.Reported.{shuts}
use Rattle.yr_answer.specs.Truths.{truths_shown}
use Rattle.yr_image.specs.Image.{Image}
use Rattle.yr_image.specs.declared.rows.RuleRow.{RuleRow}
use Rattle.yr_image.specs.Views.{shown_bytes, image_of}
use Rattle.yr_machine.specs.Listing.{listed_rules}
use Rattle.yr_machine.specs.Rows.{notes_end, strings_end}
use Rattle.yr_machine.specs.Wellformed.{IsWellformed}
use Rattle.yr_report.specs.declared.scene.Scene.{Scene}

-- the matches of its strings
abbrev pub lists_of : Scene → List (List Match)
lists_of scene = scene.matches.now.lists

-- its rules, each with its truth
abbrev pub judged_of : Scene → List (ListedRule × Bool)
judged_of scene = zip (listed_rules (image_of scene.view)) (truths_shown scene.results.now)

-- the notes and the strings of a rule are there
pub record HasRanges (image : Image) (rule : RuleRow) : Type 0 where
  pub notes : notes_end rule ≤ length image.notes
  pub strings : strings_end rule ≤ length image.strings
  pub few_notes : length image.notes < 2 ^ 32
  pub few_strings : length image.strings < 2 ^ 32

-- The image is wellformed; each string has a match list, and each rule a truth.
pub record IsGoodScene (scene : Scene) : Type 0 where
  pub wellformed : IsWellformed (shown_bytes scene.view)
  pub lists : length (lists_of scene) ≡ length (image_of scene.view).strings
  pub results : length scene.results.now ≡ length (image_of scene.view).rules

-- a name is the one that is asked
abbrev pub is_text : (asked : List ℕ) → Bor (List ℕ) → Bool
is_text asked name = bytes_eq name.now asked

-- no name is less than the one before it
abbrev pub AreSorted : List (Bor (List ℕ)) → Type 0
AreSorted names = IsSorted (λ x y. slice_cmp nat_cmp x.now y.now) names

-- these are the namespaces of the false global rules, in their order
pub record AreShut (scene : Scene) (names : List (Bor (List ℕ))) : Type 0 where
  pub sorted : AreSorted names
  pub same : (name : List ℕ) → list_any (shuts name) (judged_of scene) ≡ list_any (is_text name) names
