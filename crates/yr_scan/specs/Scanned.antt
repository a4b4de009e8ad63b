-- What an image finds in a file, as a program keeps it.
use Rattle.std.specs.Prelude.{◌≡◌, ℕ, ℤ, Bool, List}
use Rattle.yr_values.specs.Values.{Value}
use Rattle.yr_answer.specs.MatchList.{Match}
use Rattle.yr_machine.specs.Hits.{hit_count}
use Rattle.yr_meaning.specs.Scan.{ModuleValues}
use Rattle.yr_modules.specs.Joined.{module_field, module_call}
use Rattle.yr_preserves.specs.ImageReport.{ImageScan}

-- the values that the modules have for a file
abbrev pub module_values : List ℕ → ModuleValues
module_values file = record { fields = module_field file; calls = module_call file }

-- the match lists, the number of hits and the truths are what the image finds in the file with these values
pub record IsScanWith (fields : ℕ → ℤ → Value) (calls : ℕ → ℤ → ℤ → Value) (bytes file : List ℕ) (values : List Value)
    (lists : List (List Match)) (hits : ℕ) (truths : List Bool) : Type 0 where
  pub scan : ImageScan (record { fields = fields; calls = calls }) bytes file values
  pub lists_are : lists ≡ scan.context.lists
  pub hits_are : hits ≡ hit_count scan.hits
  pub truths_are : truths ≡ scan.truths

-- the same, with the values that the modules have for the file
abbrev pub IsScan : (bytes file : List ℕ) → List Value → List (List Match) → ℕ → List Bool → Type 0
IsScan bytes file values lists hits truths = IsScanWith (module_field file) (module_call file) bytes file values lists hits truths
