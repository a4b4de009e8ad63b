-- The promises of the top call over its words, its status, and what is seen before and after it.
use Rattle.std.specs.Prelude.{◌≡◌, ◌⊎◌, ℕ, List, Option, Some, None, codes}
use Rattle.std.specs.Option.{option_and_then}
use Rattle.yr_base.specs.Causes.{HasRisen}
use Rattle.yr_base.specs.Store.{IfTold}
use Rattle.yr_words.specs.Commands.{givens_of, output_of}
use Rattle.yr_words.specs.Words.{command_of}
use Rattle.yr_outcome.specs.declared.status.Status.{Status}
use Rattle.yr_outcome.specs.declared.status.Status.TheVariants as status
use Rattle.yr_outcome.specs.Texts.{external_text}
use Rattle.yr_outcome.specs.Externals.{twice_given}
use Rattle.yr_outcome.specs.Answers.{Setting}
use Rattle.yr_outcome.specs.Outcome.{Outcome, IsOutcome, IsNearOutcome}
use Rattle.yr_outcome.specs.Front.{Reading, IsReading}
use Rattle.yr_outcome.specs.Complete.{CanFinish}
use Rattle.yr_outcome.specs.Fits.{Outside, Said, Settles, IsUnread, IsUnwritten, IsOutOfMemory, IsSettled}

-- the count of the store rose
abbrev pub StoreFailed : Outside → Outside → Type 0
StoreFailed old new = HasRisen old.store_faults new.store_faults

-- the count of the output rose
abbrev pub OutFailed : Outside → Outside → Type 0
OutFailed old new = HasRisen old.out_faults new.out_faults

-- the count of the object that is written last rose: of the output, or of the store where the command writes a file
abbrev pub WriteFailed : Option (List ℕ) → Outside → Outside → Type 0
WriteFailed None old new = OutFailed old new
WriteFailed (Some name) old new = StoreFailed old new

-- the file that the words' command writes
abbrev pub output_named : List (List ℕ) → Option (List ℕ)
output_named words = option_and_then output_of (command_of words)

-- the name that the words' command gives twice
abbrev pub name_twice : List (List ℕ) → Option (List ℕ)
name_twice words = option_and_then (λ c. twice_given (givens_of c)) (command_of words)

module _ (setting : Setting) (words : List (List ℕ)) (s : Status) (old new : Outside) where
  -- this holds of some outcome, for what is found
  abbrev pub OfSome : (Outcome → Type 0) → Type 0
  OfSome P = IfTold old.seen.files (λ files. (reading : Reading) → IsReading reading
      → (o : Outcome) × IsOutcome setting reading words files o × P o)

  -- this holds of every outcome, whatever is found
  abbrev pub OfEach : (Outcome → Type 0) → Type 0
  OfEach P = IfTold old.seen.files (λ files. (reading : Reading) → IsReading reading
      → (o : Outcome) → IsNearOutcome setting reading words files o → P o)

  -- a whole answer, or the first refusal
  abbrev pub Answers : Type 0
  Answers = IsSettled s → OfSome (λ o. Settles o s old new)

  -- a file that could not be read
  abbrev pub ReadFaults : Type 0
  ReadFaults = s ≡ status.ReadFault → OfEach (λ o. (name : List ℕ) × IsUnread o name old new)

  -- an answer that could not be written
  abbrev pub WriteFaults : Type 0
  WriteFaults = s ≡ status.WriteFault → OfSome (λ o. IsUnwritten o old new)

  -- want of memory
  abbrev pub NoMemories : Type 0
  NoMemories = s ≡ status.NoMemory → OfEach (λ o. IsOutOfMemory o old new)

  -- a run that can come to its end does, but for faults and want of memory
  abbrev pub Completes : Type 0
  Completes = IfTold old.seen.files (λ files. (reading : Reading) → IsReading reading → CanFinish setting reading words files → ¬ StoreFailed old new → ¬ OutFailed old new
      → (s ≡ status.Done) ⊎ (s ≡ status.NoMemory))

  -- These hold of stores and sinks that tell nothing, too: words that do not read, a name that is given twice, and the causes of faults. The
  -- reading of words may want memory.
  abbrev pub OrNoMemory : Type 0 → Type 0
  OrNoMemory P = P ⊎ (s ≡ status.NoMemory)

  -- the status is Usage exactly where the words do not read, but for want of memory
  abbrev pub Usages : Type 0
  Usages = (s ≡ status.Usage → command_of words ≡ None) × (command_of words ≡ None → OrNoMemory (s ≡ status.Usage))

  -- a name that is given twice is refused, but for want of memory
  abbrev pub TwiceGiven : Type 0
  TwiceGiven = (name : List ℕ) → name_twice words ≡ Some name
      → OrNoMemory ((s ≡ status.External) × Said old new (external_text name (codes "Twice")))

  -- a read fails only where the count of the store rose
  abbrev pub ReadCauses : Type 0
  ReadCauses = s ≡ status.ReadFault → StoreFailed old new

  -- a write fails only where the count of what is written rose
  abbrev pub WriteCauses : Type 0
  WriteCauses = s ≡ status.WriteFault → WriteFailed (output_named words) old new
