-- What the row of a note or of an external variable says: a tag, or a name with a value.
use Rattle.std.specs.Prelude.{◌≡◌, ℕ, ◌+◌, ◌≤◌, List, [], ◌∷◌, ◌++◌, length, map, Bool, true, false}
use Rattle.std.specs.Int.{w64, cast_signed}
use Rattle.yr_syntax.specs.Declaration.{MetaTree, ValueTree, TextValue, NumberValue, FlagValue}
use Rattle.yr_values.specs.Values.{Value, Undefined, Number, Flag, Text}
use Rattle.yr_rules.specs.Rules.{PlainExternal, PlainRule}
use Rattle.yr_rules.specs.Weight.{text_bytes}
use Rattle.yr_image.specs.declared.rows.NoteRow.{NoteRow}
use Rattle.yr_image.specs.Image.{Image, pool_text}

-- a tag, or an entry
pub data Note : Type 0 where
  Tag : List ℕ → Note
  Entry : List ℕ → Value → Note

-- the value of an entry of meta
abbrev pub meta_value : ValueTree → Value
meta_value (TextValue t) = Text t
meta_value (NumberValue n) = Number n
meta_value (FlagValue b) = Flag b

abbrev pub entry_of : MetaTree → Note
entry_of m = Entry m.key (meta_value m.value)

-- the notes of a rule: its tags, and then its entries
abbrev pub notes_of : PlainRule → List Note
notes_of rule = map Tag rule.tags ++ map entry_of rule.meta

abbrev pub external_note : PlainExternal → Note
external_note e = Entry e.name e.value

-- how many bytes its texts have
abbrev pub note_bytes : Note → ℕ
note_bytes (Tag name) = length name
note_bytes (Entry name value) = length name + text_bytes value

-- a range of the pool reads this text
pub record IsText (image : Image) (text : List ℕ) (place count : ℕ) : Type 0 where
  pub inside : place + count ≤ length image.pool
  pub reads : pool_text image place count ≡ text

-- 1 where it is set
abbrev pub flag_of : Bool → ℕ
flag_of true = 1
flag_of false = 0

-- the fields say the value
abbrev pub SaysValue : Image → Value → NoteRow → Type 0
SaysValue image (Text t) row = (row.kind ≡ 1) × IsText image t row.value row.value_length
SaysValue image (Number n) row = (row.kind ≡ 2) × (row.value_length ≡ 0) × (cast_signed w64 row.value ≡ n)
SaysValue image (Flag b) row = (row.kind ≡ 3) × (row.value_length ≡ 0) × (row.value ≡ flag_of b)
SaysValue image Undefined row = ⊥

-- the row says the note
abbrev pub SaysNote : Image → Note → NoteRow → Type 0
SaysNote image (Tag name) row = IsText image name row.name_place row.name_length × (row.kind ≡ 0) × (row.value_length ≡ 0) × (row.value ≡ 0)
SaysNote image (Entry name value) row = IsText image name row.name_place row.name_length × SaysValue image value row

-- row by row
abbrev pub SayNotes : Image → List Note → List NoteRow → Type 0
SayNotes image [] [] = Unit {0}
SayNotes image (note ∷ notes) (row ∷ rows) = SaysNote image note row × SayNotes image notes rows
SayNotes image [] (row ∷ rows) = ⊥
SayNotes image (note ∷ notes) [] = ⊥
