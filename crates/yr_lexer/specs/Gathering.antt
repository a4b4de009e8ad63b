-- What gathering answers, against the walk over files and includes.
use Rattle.std.specs.Prelude.{◌≡◌, ℕ, List, Option, Result, Ok, Err, string_bytes}
use Rattle.yr_base.specs.Causes.{HasRisen}
use Rattle.yr_base.specs.Trace.{Entry}
use Rattle.yr_base.specs.Notes.{NotesAll, NotesSome, NotesFailure}
use Rattle.yr_lexer.specs.declared.fault.GatherFault.{GatherFault}
use Rattle.yr_lexer.specs.declared.fault.GatherFault.TheVariants as fault
use Rattle.yr_lexer.specs.Sources.{Gathered}
use Rattle.yr_lexer.specs.Includes.{Walk, WalkFault, Lex, Path, Cycle, Depth, TextTooLong}

-- the walk ends with this fault, and all its reads were noted
abbrev pub IsRefused : Walk → WalkFault → Option (List Entry) → Option (List Entry) → Type 0
IsRefused walk why old new = (walk.answer ≡ Err why) × NotesAll old new walk.after.reads

-- A refusal is the walk's fault. At a failed read the reads up to that one were noted, and at want of memory some of them.
abbrev pub FitsFault : Walk → GatherFault → Option (List Entry) → Option (List Entry) → Type 0
FitsFault walk (fault.Lex file why) old new = IsRefused walk (Lex (string_bytes file) why) old new
FitsFault walk (fault.Read name) old new = NotesFailure old new walk.after.reads (string_bytes name)
FitsFault walk (fault.Path file line) old new = IsRefused walk (Path (string_bytes file) line) old new
FitsFault walk (fault.Cycle file line name) old new = IsRefused walk (Cycle (string_bytes file) line (string_bytes name)) old new
FitsFault walk (fault.Depth file line name) old new = IsRefused walk (Depth (string_bytes file) line (string_bytes name)) old new
FitsFault walk (fault.TextTooLong name) old new = IsRefused walk (TextTooLong (string_bytes name)) old new
FitsFault walk fault.NoMemory old new = NotesSome old new walk.after.reads

-- Ok has the tokens and the files of the walk, and all its reads were noted.
abbrev pub FitsWalk : Walk → Result Gathered GatherFault → Option (List Entry) → Option (List Entry) → Type 0
FitsWalk walk (Ok gathered) old new = (walk.answer ≡ Ok gathered.tokens) × (walk.after.files ≡ gathered.files) × NotesAll old new walk.after.reads
FitsWalk walk (Err why) old new = FitsFault walk why old new

-- where a read failed, the count rose
abbrev pub HasCause : GatherFault → ℕ → ℕ → Type 0
HasCause (fault.Read name) before after = HasRisen before after
HasCause why before after = Unit {0}
