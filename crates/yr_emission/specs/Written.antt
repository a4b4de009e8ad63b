-- What was written: rows at the end of a rule's rows, and what they name in an image that is being made.
use Rattle.std.specs.Prelude.{◌≡◌, ℕ, ◌+◌, ◌*◌, ◌≤◌, List, [], ◌∷◌, ◌++◌, length, Some}
use Rattle.yr_image.specs.declared.rows.CodeRow.{CodeRow}
use Rattle.yr_image.specs.declared.instruction.Instruction.{Instruction}
use Rattle.yr_image.specs.Image.{Image}
use Rattle.yr_image.specs.Instructions.{instruction_of}
use Rattle.yr_draft.specs.Growing.{Grows}
use Rattle.yr_splits.specs.Programs.{AreProgramRows}
use Rattle.yr_emission.specs.Parts.{Part, Line, exactly, gives_text, asks}
use Rattle.yr_image.specs.Sayable.{IsSayable}
use Rattle.yr_emission.specs.Standing.{Fulfils}

-- the row says the instruction, if any row can
abbrev pub SaysIf : Instruction → CodeRow → Type 0
SaysIf r row = IsSayable r → instruction_of row ≡ Some r

-- one row was added, which says the instruction
pub record HasRow (r : Instruction) (before after : List CodeRow) : Type 0 where
  pub row : CodeRow
  pub added : after ≡ before ++ row ∷ []
  pub says : SaysIf r row

module _ (image : Image) where
  -- the row says the line, if any row can
  abbrev pub Tells : Line → CodeRow → Type 0
  Tells (exactly r) row = SaysIf r row
  Tells (gives_text t) row = Fulfils image (gives_text t) (instruction_of row)
  Tells (asks p) row = Fulfils image (asks p) (instruction_of row)

  -- row by row
  abbrev pub TellAll : List Line → List CodeRow → Type 0
  TellAll [] [] = Unit {0}
  TellAll [] (row ∷ rows) = ⊥
  TellAll (line ∷ lines) [] = ⊥
  TellAll (line ∷ lines) (row ∷ rows) = Tells line row × TellAll lines rows

-- the bytes of an image's texts and programs
abbrev pub stored_bytes : Image → ℕ
stored_bytes image = length image.pool + 32 * length image.sets + 16 * length image.moves + 8 * length image.programs

-- the new image, with the sections of texts, programs and lists as they were in the old one
abbrev pub put_back : (old new : Image) → Image
put_back old new = record new { sets = old.sets; programs = old.programs; moves = old.moves; lists = old.lists; pool = old.pool }

-- this part was added at the end of the rows, its list rows, texts and programs to the image, and nothing else
pub record Written (x : Part) (before after : List CodeRow) (old new : Image) : Type 0 where
  pub more : List CodeRow
  pub rows : after ≡ before ++ more
  pub tell : TellAll new (x.rows (length before) (length old.lists)) more
  pub lists : new.lists ≡ old.lists ++ x.lists
  pub grows : Grows old new
  pub programs : AreProgramRows old → AreProgramRows new
  pub few : stored_bytes new ≤ stored_bytes old + x.stored
  pub others : put_back old new ≡ old
