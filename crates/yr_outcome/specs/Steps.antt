-- How the answer of a step of the program fits the walk from there on, whatever is found.
use Rattle.std.specs.Prelude.{◌≡◌, ℕ, List, [], Option, None, Some, string_bytes}
use Rattle.std.specs.Option.{option_map}
use Rattle.yr_base.specs.Causes.{HasRisen}
use Rattle.yr_base.specs.Store.{Files, IfTold}
use Rattle.yr_base.specs.Notes.{NotesAll}
use Rattle.yr_outcome.specs.declared.answer.Answer.{Answer}
use Rattle.yr_outcome.specs.declared.answer.Answer.TheVariants as answer
use Rattle.yr_outcome.specs.declared.status.Status.{Status}
use Rattle.yr_outcome.specs.declared.status.Status.TheVariants as status
use Rattle.yr_outcome.specs.Texts.{unread, unwritten_to, out_of_memory}
use Rattle.yr_outcome.specs.Front.{Reading, IsReading}
use Rattle.yr_outcome.specs.Answers.{Setting}
use Rattle.yr_outcome.specs.Outcome.{Found, Ending, Holds, ending_of}
use Rattle.yr_outcome.specs.Fits.{Seen, Outside, Follows, FailsRead, FailsWrite, Stops, IsSettled}

-- the status that stands for an answer
abbrev pub status_of : Answer → Status
status_of answer.Done = status.Done
status_of (answer.Refused s text) = s
status_of (answer.Unread name) = status.ReadFault
status_of (answer.UnreadFile name) = status.ReadFault
status_of (answer.Unwritten output) = status.WriteFault
status_of answer.NoMemory = status.NoMemory

-- the text that is said of an answer
abbrev pub text_of : Answer → List ℕ
text_of answer.Done = []
text_of (answer.Refused s text) = text.items
text_of (answer.Unread name) = unread name.now
text_of (answer.UnreadFile name) = unread (string_bytes name)
text_of (answer.Unwritten output) = unwritten_to (option_map (λ name. name.now) output)
text_of answer.NoMemory = out_of_memory

-- an ending for what is found
abbrev pub Endings : Type 0
Endings = Found → Ending

-- for something that was found and of which the claim holds, the outcome has this status and text, and its calls and bytes follow
pub record Ends (setting : Setting) (e : Endings) (s : Status) (text : List ℕ) (old new : Seen) : Type 0 where
  pub found : Found
  pub holds : Holds setting found (e found).claim
  pub status : s ≡ (e found).outcome.status
  pub said : text ≡ (e found).outcome.said
  pub follows : Follows (e found).outcome old new

-- the same, but the outcome is whole and could not be written
pub record EndsUnwritten (setting : Setting) (e : Endings) (output : Option (List ℕ)) (old new : Seen) : Type 0 where
  pub found : Found
  pub holds : Holds setting found (e found).claim
  pub whole : (e found).outcome.status ≡ status.Done
  pub output_is : output ≡ (e found).outcome.output
  pub fails : FailsWrite (e found).outcome (e found).outcome.output old new

-- the answer of a step whose walk goes on like this
abbrev pub FitsAnswer : Setting → Endings → Answer → Seen → Seen → Type 0
FitsAnswer setting e answer.Done old new = Ends setting e status.Done [] old new
FitsAnswer setting e (answer.Refused s text) old new = IsSettled s × Ends setting e s text.items old new
FitsAnswer setting e (answer.Unread name) old new = (found : Found) → FailsRead (e found).outcome name.now old new
FitsAnswer setting e (answer.UnreadFile name) old new = (found : Found) → FailsRead (e found).outcome (string_bytes name) old new
FitsAnswer setting e (answer.Unwritten output) old new = EndsUnwritten setting e (option_map (λ name. name.now) output) old new
FitsAnswer setting e answer.NoMemory old new = (found : Found) → Stops (e found).outcome old new

-- the store and the output between reads of these names and what follows them
pub record HasRead (names : List (List ℕ)) (old mid : Seen) : Type 0 where
  pub files : mid.files ≡ old.files
  pub out : mid.out ≡ old.out
  pub noted : NotesAll old.trace mid.trace names

-- the answer of the whole walk fits, for every reading
abbrev pub FitsEach : Setting → List (List ℕ) → Files → Answer → Outside → Outside → Type 0
FitsEach setting words files a old new =
    (reading : Reading) → IsReading reading → FitsAnswer setting (λ found. ending_of setting reading found files words) a old.seen new.seen

-- the same, for the files that are told
abbrev pub Fitting : Setting → List (List ℕ) → Answer → Outside → Outside → Type 0
Fitting setting words a old new = IfTold old.seen.files (λ files. FitsEach setting words files a old new)

-- the refusal with this status and text, unless there was no memory for the text
abbrev pub IsRefusalOf : Status → List ℕ → Answer → Type 0
IsRefusalOf s text (answer.Refused t said) = (t ≡ s) × (said.items ≡ text)
IsRefusalOf s text answer.NoMemory = Unit {0}
IsRefusalOf s text a = ⊥

-- a refusal that comes after the words were read
abbrev pub IsOfRun : Status → Type 0
IsOfRun status.Rules = Unit {0}
IsOfRun status.Image = Unit {0}
IsOfRun status.LongTarget = Unit {0}
IsOfRun status.External = Unit {0}
IsOfRun s = ⊥

-- the count of what is written rose: of the output, or of the store where a file is
abbrev pub WriteRose : (output : Option (List ℕ)) → (store_before store_after out_before out_after : ℕ) → Type 0
WriteRose None sb sa ob oa = HasRisen ob oa
WriteRose (Some name) sb sa ob oa = HasRisen sb sa

-- Of stores and sinks that tell nothing, too: a failed read raised the store's count, a failed write that of what is written, and no refusal
-- is one of the words.
abbrev pub HasCause : (output : Option (List ℕ)) → Answer → (store_before store_after out_before out_after : ℕ) → Type 0
HasCause output (answer.Refused s text) sb sa ob oa = IsOfRun s
HasCause output (answer.Unread name) sb sa ob oa = HasRisen sb sa
HasCause output (answer.UnreadFile name) sb sa ob oa = HasRisen sb sa
HasCause output (answer.Unwritten to) sb sa ob oa = WriteRose output sb sa ob oa
HasCause output answer.Done sb sa ob oa = Unit {0}
HasCause output answer.NoMemory sb sa ob oa = Unit {0}
