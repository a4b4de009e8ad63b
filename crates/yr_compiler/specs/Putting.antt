-- What is put into an image, and what it costs.
use Rattle.std.specs.Prelude.{◌≡◌, ℕ, ◌+◌, ◌*◌, ◌≤◌, List, [], ◌∷◌, ◌++◌, length, map}
use Rattle.yr_rules.specs.Rules.{PlainExternal, PlainRule}
use Rattle.yr_rules.specs.Weight.{total, external_weight, tag_weight, meta_weight}
use Rattle.yr_image.specs.declared.rows.NoteRow.{NoteRow}
use Rattle.yr_image.specs.Image.{Image}
use Rattle.yr_image.specs.Encoding.{encoded_length}
use Rattle.yr_draft.specs.Growing.{Grows}
use Rattle.yr_compiler.specs.declared.code_range.CodeRange.{CodeRange}
use Rattle.yr_compiler.specs.Notes.{Note, note_bytes, IsText, SaysNote, SayNotes, external_note}
use Rattle.yr_compiler.specs.Rules.{SayRules}

-- the name of a row with this kind and value is put
pub record HasName (old new : Image) (name : List ℕ) (kind value : ℕ) (row : NoteRow) : Type 0 where
  pub others : new ≡ record old { pool = new.pool }
  pub grows : Grows old new
  pub text : IsText new name row.name_place row.name_length
  pub kind_is : row.kind ≡ kind
  pub value_is : row.value ≡ value
  pub no_length : row.value_length ≡ 0
  pub cost : encoded_length new ≤ encoded_length old + length name

-- the texts of a note are put, for this row
pub record PutsNote (old new : Image) (note : Note) (row : NoteRow) : Type 0 where
  pub others : new ≡ record old { pool = new.pool }
  pub grows : Grows old new
  pub says : SaysNote new note row
  pub cost : encoded_length new ≤ encoded_length old + note_bytes note

-- the bytes of notes with their rows
abbrev pub notes_bytes : List Note → ℕ
notes_bytes [] = 0
notes_bytes (note ∷ notes) = 24 + note_bytes note + notes_bytes notes

-- notes are put behind those that are there
pub record PutsNotes (old new : Image) (notes : List Note) : Type 0 where
  pub others : new ≡ record old { notes = new.notes; pool = new.pool }
  pub grows : Grows old new
  pub rows : List NoteRow
  pub pushed : new.notes ≡ old.notes ++ rows
  pub say : SayNotes new notes rows
  pub cost : encoded_length new ≤ encoded_length old + notes_bytes notes

-- externals are put into an image that had none
pub record PutsExternals (old new : Image) (externals : List PlainExternal) : Type 0 where
  pub others : new ≡ record old { externals = new.externals; pool = new.pool }
  pub grows : Grows old new
  pub say : SayNotes new (map external_note externals) new.externals
  pub cost : encoded_length new ≤ encoded_length old + 64 * total external_weight externals

-- what a rule weighs without its condition
abbrev pub listing_weight : PlainRule → ℕ
listing_weight rule = 64 + length rule.name + total tag_weight rule.tags + total meta_weight rule.meta

-- from a first image without rules and notes on, rows of rules are put
pub record PutsRules (start image : Image) (rules : List PlainRule) (codes : List CodeRange) : Type 0 where
  pub others : image ≡ record start { rules = image.rules; notes = image.notes; pool = image.pool }
  pub grows : Grows start image
  pub say : SayRules image rules codes
  pub cost : encoded_length image ≤ encoded_length start + 64 * total listing_weight rules
