-- The notes of a rule that are asked for, tags or entries of meta, one after another.
use Rattle.std.specs.Prelude.{ℕ, Bool, not, ◌||◌, if◌then◌else◌, List, [], ◌∷◌, ◌++◌, codes}
use Rattle.yr_answer.specs.Report.{on_request, entry_text}
use Rattle.yr_image.specs.Image.{Image}
use Rattle.yr_image.specs.declared.rows.NoteRow.{NoteRow}
use Rattle.yr_machine.specs.Names.{note_name}
use Rattle.yr_machine.specs.Listing.{is_tag, listed_meta}

-- a tag where tags are asked for, and an entry of meta where they are not
abbrev pub is_asked : (tags : Bool) → NoteRow → Bool
is_asked tags note = if tags then is_tag note else not (is_tag note)

-- its text
abbrev pub note_text : Image → (tags : Bool) → NoteRow → List ℕ
note_text image tags note = if tags then note_name image note else entry_text (listed_meta image note)

module _ (test : NoteRow → Bool) (text : NoteRow → List ℕ) where
  -- a note that passes the test, with a comma where some stands before it
  abbrev pub entry : (some : Bool) → NoteRow → List ℕ
  entry some note = on_request (test note) (on_request some (codes ",") ++ text note)

  abbrev pub entries : (some : Bool) → List NoteRow → List ℕ
  entries some [] = []
  entries some (note ∷ notes) = entry some note ++ entries (some || test note) notes
