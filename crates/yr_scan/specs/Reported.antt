-- What a report with its last line leaves on the output, by its answer.
use Rattle.std.specs.Prelude.{◌≡◌, ℕ, List, ◌++◌, Option, None}
use Rattle.yr_base.specs.Told.{told_more, AddsPrefix}
use Rattle.yr_values.specs.Values.{Value}
use Rattle.yr_preserves.specs.ImageReport.{IsImageReport}
use Rattle.yr_meaning.specs.Scan.{ModuleValues}
use Rattle.yr_outcome.specs.Answers.{hits_line, options_of}
use Rattle.yr_outcome.specs.declared.answer.Answer.{Answer}
use Rattle.yr_outcome.specs.declared.answer.Answer.TheVariants as answer
use Rattle.yr_base.specs.Store.{Files}
use Rattle.yr_preserves.specs.Preserves.{IsTarget}
use Rattle.yr_outcome.specs.Answers.{Setting}
use Rattle.yr_outcome.specs.Outcome.{Found, Ending, Claim, Holds, shown}
use Rattle.yr_scan.specs.Scanned.{module_values}
use Rattle.yr_words.specs.Commands.{Flags}

-- the whole text, or a prefix of it where a put failed
abbrev pub PutsAll : (report line : List ℕ) → Answer → (old new : Option (List ℕ)) → Type 0
PutsAll report line answer.Done old new = new ≡ told_more old (report ++ line)
PutsAll report line (answer.Unwritten None) old new = AddsPrefix old new (report ++ line)
PutsAll report line a old new = ⊥

-- the report of the image and its hits, of which this holds
pub record SomeReport (modules : ModuleValues) (image file : List ℕ) (values : List Value) (flags : Flags) (target : List ℕ) (P : List ℕ → Type 0) : Type 0 where
  pub text : List ℕ
  pub hits : ℕ
  pub report : IsImageReport modules image file values (options_of flags) target text hits
  pub has : P (text ++ hits_line flags hits)

-- the report of the image and the line of its hits are on the output, or a prefix of them where a put failed, or nothing where there was no memory
abbrev pub IsReportAnswer : ModuleValues → (image file : List ℕ) → List Value → Flags → (target : List ℕ) → Answer → (old new : Option (List ℕ)) → Type 0
IsReportAnswer modules image file values flags target answer.Done old new = SomeReport modules image file values flags target (λ text. new ≡ told_more old text)
IsReportAnswer modules image file values flags target (answer.Unwritten None) old new = SomeReport modules image file values flags target (λ text. AddsPrefix old new text)
IsReportAnswer modules image file values flags target answer.NoMemory old new = new ≡ old
IsReportAnswer modules image file values flags target a old new = ⊥

-- for each report of the image on a target something is found, for which an ending shows this report with the line of its hits
abbrev pub GivesReports : Setting → Files → (image : List ℕ) → List Value → Flags → (target : List ℕ) → (Found → List ℕ → Ending) → Type 0
GivesReports setting files image values flags target answer =
    (file : List ℕ) → IsTarget file → (text : List ℕ) (hits : ℕ) → IsImageReport (module_values file) image file values (options_of flags) target text hits
    → (found : Found) × (claim : Claim) × (answer found file ≡ shown files (text ++ hits_line flags hits) claim) × Holds setting found claim
