-- What the rows of rules say.
use Rattle.std.specs.Prelude.{◌≡◌, ℕ, ◌+◌, ◌*◌, ◌≤◌, List, length, take, drop, Some, slice_get}
use Rattle.yr_rules.specs.Rules.{PlainString, PlainRule}
use Rattle.yr_image.specs.declared.rows.NoteRow.{NoteRow}
use Rattle.yr_image.specs.declared.rows.RuleRow.{RuleRow}
use Rattle.yr_image.specs.declared.rows.StringRow.{StringRow}
use Rattle.yr_image.specs.Image.{Image}
use Rattle.yr_machine.specs.Rows.{end_before, notes_end}
use Rattle.yr_machine.specs.Names.{string_name}
use Rattle.yr_machine.specs.Listing.{has_flag}
use Rattle.yr_compiler.specs.declared.code_range.CodeRange.{CodeRange}
use Rattle.yr_compiler.specs.Notes.{IsText, SayNotes, notes_of, flag_of}

-- the notes in the range of a row
abbrev pub notes_in : Image → RuleRow → List NoteRow
notes_in image row = take row.notes (drop row.first_note image.notes)

-- the row says the rule, and its code stands in this range
pub record SaysRule (image : Image) (rule : PlainRule) (code : CodeRange) (row : RuleRow) : Type 0 where
  pub name : IsText image rule.name row.name_place row.name_length
  pub space : IsText image rule.space row.namespace_place row.namespace_length
  pub flags : row.flags ≡ flag_of rule.global + 2 * flag_of rule.hidden
  pub inside : row.first_note + row.notes ≤ length image.notes
  pub notes : SayNotes image (notes_of rule) (notes_in image row)
  pub first_string : row.first_string ≡ rule.first_string
  pub strings : row.strings ≡ rule.string_count
  pub first_code : row.first_code ≡ code.first
  pub code_rows : row.code_rows ≡ code.rows

-- the rows say the rules in order, and their notes follow one another and are all the notes
pub record SayRules (image : Image) (rules : List PlainRule) (codes : List CodeRange) : Type 0 where
  pub count : length image.rules ≡ length rules
  pub enough : length rules ≤ length codes
  pub each : (k : ℕ) (rule : PlainRule) (code : CodeRange) (row : RuleRow) → slice_get rules k ≡ Some rule → slice_get codes k ≡ Some code
      → slice_get image.rules k ≡ Some row → SaysRule image rule code row
  pub follow : (k : ℕ) (row : RuleRow) → slice_get image.rules k ≡ Some row → row.first_note ≡ end_before notes_end image.rules k
  pub whole : end_before notes_end image.rules (length image.rules) ≡ length image.notes

-- a name and a namespace that are not long
abbrev pub HasShortTexts : PlainRule → Type 0
HasShortTexts rule = (length rule.name ≤ 128) × (length rule.space ≤ 128)

-- the rows of strings have their names and whether they are private
pub record SayNames (image : Image) (strings : List PlainString) : Type 0 where
  pub count : length image.strings ≡ length strings
  pub each : (k : ℕ) (string : PlainString) (row : StringRow) → slice_get strings k ≡ Some string → slice_get image.strings k ≡ Some row
      → (string_name image row ≡ string.name) × (has_flag 1 row.flags ≡ string.hidden)
