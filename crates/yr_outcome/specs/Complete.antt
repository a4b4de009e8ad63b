-- When a run can come to its end: the words read, no name is given twice, all files that it reads are there, rules are not refused or an image
-- is wellformed and has the names that are given, and the target is not too long.
use Rattle.std.specs.Prelude.{◌≡◌, ℕ, ◌+◌, List, [], ◌∷◌, nat_le, length, take, true, None, Some, Ok}
use Rattle.yr_base.specs.Store.{Files}
use Rattle.yr_rules.specs.Rules.{PlainRules}
use Rattle.yr_image.specs.Sections.{most_bytes}
use Rattle.yr_preserves.specs.Preserves.{target_limit, externals_in}
use Rattle.yr_workload.specs.Workload.{workload_of}
use Rattle.yr_words.specs.Values.{Given}
use Rattle.yr_words.specs.Commands.{Source, Command, Scan, ScanImage, Compile, Check, Work, givens_of}
use Rattle.yr_words.specs.Words.{command_of}
use Rattle.yr_outcome.specs.Front.{Reading, rules_of}
use Rattle.yr_outcome.specs.Externals.{twice_given, first_misfit}
use Rattle.yr_outcome.specs.Answers.{Setting}
use Rattle.yr_outcome.specs.Outcome.{work_files, work_source}

-- a target that is there and not too long
pub record HasTarget (files : Files) (name : List ℕ) : Type 0 where
  pub file : List ℕ
  pub there : files name ≡ Some file
  pub fits : nat_le (length file) target_limit ≡ true

-- rules that are not refused
pub record GivesRules (setting : Setting) (reading : Reading) (files : Files) (sources : List Source) (givens : List Given) : Type 0 where
  pub rules : PlainRules
  pub checked : rules_of reading setting.modules files sources givens ≡ Ok rules

-- an image that is there and wellformed, with the names that are given
pub record HasImage (reading : Reading) (files : Files) (name : List ℕ) (givens : List Given) : Type 0 where
  pub bytes : List ℕ
  pub there : files name ≡ Some bytes
  pub wellformed : reading.verified (take (most_bytes + 1) bytes) ≡ None
  pub fits : first_misfit (externals_in (take (most_bytes + 1) bytes)) givens ≡ None

-- each command
abbrev pub CanRun : Setting → Reading → Files → Command → Type 0
CanRun setting reading files (Scan flags sources target givens) = GivesRules setting reading files sources givens × HasTarget files target
CanRun setting reading files (ScanImage flags image target givens) = HasImage reading files image givens × HasTarget files target
CanRun setting reading files (Compile sources output givens) = GivesRules setting reading files sources givens
CanRun setting reading files (Check sources givens) = GivesRules setting reading files sources givens
CanRun setting reading files (Work number size) =
    GivesRules setting reading (work_files (workload_of number size)) (work_source ∷ []) []

-- the words read, no name is given twice, and the command can run
pub record CanFinish (setting : Setting) (reading : Reading) (words : List (List ℕ)) (files : Files) : Type 0 where
  pub command : Command
  pub spelled : command_of words ≡ Some command
  pub different : twice_given (givens_of command) ≡ None
  pub runs : CanRun setting reading files command
