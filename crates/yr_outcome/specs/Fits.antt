-- How what is seen before and after a run fits an outcome.
use Rattle.std.specs.Prelude.{◌≡◌, ◌⊎◌, ℕ, List, [], ◌∷◌, ◌++◌, map, true, false, Option, Some, None}
use Rattle.yr_base.specs.Causes.{HasRisen}
use Rattle.yr_base.specs.Told.{told_more, AddsPrefix}
use Rattle.yr_base.specs.Trace.{Entry}
use Rattle.yr_base.specs.Store.{Files, with_file}
use Rattle.yr_base.specs.Notes.{read_noted, NotesAll, NotesSome, NotesFailure}
use Rattle.yr_outcome.specs.declared.status.Status.{Status}
use Rattle.yr_outcome.specs.declared.status.Status.TheVariants as status
use Rattle.yr_outcome.specs.Texts.{unread, unwritten_to, out_of_memory}
use Rattle.yr_outcome.specs.Outcome.{Outcome}

-- the text was said, or a prefix of it where the count rose
abbrev pub Says : Option (List ℕ) → Option (List ℕ) → List ℕ → ℕ → ℕ → Type 0
Says old new text before after = (new ≡ told_more old text) ⊎ (HasRisen before after × AddsPrefix old new text)

-- what a store and the output show: files, trace, and bytes
pub record Seen : Type 0 where
  pub files : Option Files
  pub trace : Option (List Entry)
  pub out : Option (List ℕ)

-- the view of these
abbrev pub seen : Option Files → Option (List Entry) → Option (List ℕ) → Seen
seen files trace out = record { files = files; trace = trace; out = out }

-- what is seen from outside: the same, what is said, and the counts of faults of the store, the output and the messages
pub record Outside : Type 0 where
  pub seen : Seen
  pub err : Option (List ℕ)
  pub store_faults : ℕ
  pub out_faults : ℕ
  pub err_faults : ℕ

-- the view from outside of these
abbrev pub outside : Option Files → Option (List Entry) → ℕ → Option (List ℕ) → ℕ → Option (List ℕ) → ℕ → Outside
outside files trace store_faults out out_faults err err_faults = record {
  seen = record { files = files; trace = trace; out = out };
  err = err;
  store_faults = store_faults;
  out_faults = out_faults;
  err_faults = err_faults;
}

-- what was said between two views
abbrev pub Said : Outside → Outside → List ℕ → Type 0
Said old new text = Says old.err new.err text old.err_faults new.err_faults

-- a write that did not fail
abbrev pub write_noted : List ℕ → Entry
write_noted name = record { writes = true; name = name; failed = false }

-- a write that failed
abbrev pub write_failure_noted : List ℕ → Entry
write_failure_noted name = record { writes = true; name = name; failed = true }

-- the write of a file, if one is written
abbrev pub write_of : Option (List ℕ) → List Entry
write_of None = []
write_of (Some name) = write_noted name ∷ []

-- all calls of an outcome, none of which failed
abbrev pub entries_of : Outcome → List Entry
entries_of o = map read_noted o.reads ++ write_of o.output

-- the calls and the bytes of an outcome
pub record Follows (o : Outcome) (old new : Seen) : Type 0 where
  pub written : new.out ≡ told_more old.out o.out
  pub files : new.files ≡ Some o.files
  pub noted : new.trace ≡ told_more old.trace (entries_of o)

-- a read of this name, which the outcome makes with no refusal before it, failed
pub record FailsRead (o : Outcome) (name : List ℕ) (old new : Seen) : Type 0 where
  pub written : new.out ≡ old.out
  pub files : new.files ≡ old.files
  pub noted : NotesFailure old.trace new.trace o.reads name

-- a failed put leaves a prefix of the answer on the output
pub record LeavesOutput (o : Outcome) (old new : Seen) : Type 0 where
  pub written : AddsPrefix old.out new.out o.out
  pub files : new.files ≡ old.files
  pub noted : NotesAll old.trace new.trace o.reads

-- a failed write leaves anything in the file that was to be written, and nothing elsewhere
pub record LeavesFile (o : Outcome) (name : List ℕ) (old new : Seen) : Type 0 where
  pub written : new.out ≡ old.out
  pub content : Option (List ℕ)
  pub files : new.files ≡ with_file old.files name content
  pub noted : new.trace ≡ told_more old.trace (map read_noted o.reads ++ write_failure_noted name ∷ [])

-- the one or the other
abbrev pub FailsWrite : Outcome → Option (List ℕ) → Seen → Seen → Type 0
FailsWrite o None old new = LeavesOutput o old new
FailsWrite o (Some name) old new = LeavesFile o name old new

-- nothing was written, and some of the reads were noted
pub record Stops (o : Outcome) (old new : Seen) : Type 0 where
  pub written : new.out ≡ old.out
  pub files : new.files ≡ old.files
  pub noted : NotesSome old.trace new.trace o.reads

-- a refusal or a whole answer that the outcome has
pub record Settles (o : Outcome) (s : Status) (old new : Outside) : Type 0 where
  pub status : s ≡ o.status
  pub said : Said old new o.said
  pub follows : Follows o old.seen new.seen

-- the file of this name could not be read
pub record IsUnread (o : Outcome) (name : List ℕ) (old new : Outside) : Type 0 where
  pub said : Said old new (unread name)
  pub fails : FailsRead o name old.seen new.seen

-- the answer is whole and could not be written
pub record IsUnwritten (o : Outcome) (old new : Outside) : Type 0 where
  pub whole : o.status ≡ status.Done
  pub said : Said old new (unwritten_to o.output)
  pub fails : FailsWrite o o.output old.seen new.seen

-- there was no memory
pub record IsOutOfMemory (o : Outcome) (old new : Outside) : Type 0 where
  pub said : Said old new out_of_memory
  pub stops : Stops o old.seen new.seen

-- a whole answer, or a refusal that the outcome has
abbrev pub IsSettled : Status → Type 0
IsSettled status.ReadFault = ⊥
IsSettled status.WriteFault = ⊥
IsSettled status.NoMemory = ⊥
IsSettled s = Unit {0}
