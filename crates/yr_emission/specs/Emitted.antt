-- The code of a rule that was added to an image.
use Rattle.std.specs.Prelude.{◌≡◌, ℕ, ◌+◌, ◌*◌, ◌≤◌, List, [], ◌++◌, length, Some}
use Rattle.yr_base.specs.declared.value.Kind.{Kind}
use Rattle.yr_rules.specs.NodeTree.{NodeTree}
use Rattle.yr_rules.specs.Rules.{PlainExternal}
use Rattle.yr_rules.specs.Kinds.{kind_of}
use Rattle.yr_rules.specs.Fits.{Rows, Fits}
use Rattle.yr_image.specs.declared.rows.CodeRow.{CodeRow}
use Rattle.yr_image.specs.Image.{Image}
use Rattle.yr_draft.specs.Growing.{Grows}
use Rattle.yr_splits.specs.Programs.{AreProgramRows}
use Rattle.yr_emission.specs.Parts.{rule_part}
use Rattle.yr_emission.specs.Standing.{Stands}
use Rattle.yr_emission.specs.Written.{stored_bytes, put_back}

-- the bytes of an image's code, list rows, texts and programs
abbrev pub code_bytes : Image → ℕ
code_bytes image = 16 * length image.code + 4 * length image.lists + stored_bytes image

-- So many rows of code were added from `first` on, with list rows, texts and programs, and nothing else. For a checked condition they are its code.
pub record Emitted (externals : List PlainExternal) (c : NodeTree) (old new : Image) (first count : ℕ) : Type 0 where
  pub rows : List CodeRow
  pub is_first : first ≡ length old.code
  pub is_count : count ≡ length rows
  pub size : length rows ≡ (rule_part externals c).size
  pub code : new.code ≡ old.code ++ rows
  pub lists : new.lists ≡ old.lists ++ (rule_part externals c).lists
  pub grows : Grows old new
  pub programs : AreProgramRows old → AreProgramRows new
  pub few : stored_bytes new ≤ stored_bytes old + (rule_part externals c).stored
  pub others : record (put_back old new) { code = old.code } ≡ old
  pub stands : (k : Kind) (bounds : Rows) → kind_of externals c [] ≡ Some k → Fits bounds c [] → Stands new rows (rule_part externals c) 0 (length old.lists)
