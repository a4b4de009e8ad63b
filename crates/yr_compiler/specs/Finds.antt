-- What an image to which rules are compiled finds in a file.
use Rattle.std.specs.Prelude.{◌≡◌, ℕ, List}
use Rattle.yr_values.specs.Values.{Value}
use Rattle.yr_rules.specs.Rules.{PlainRules}
use Rattle.yr_meaning.specs.Matches.{match_lists_of}
use Rattle.yr_meaning.specs.Truths.{truths_of}
use Rattle.yr_meaning.specs.Scan.{ModuleValues, environment_of}
use Rattle.yr_preserves.specs.ImageReport.{ImageScan}
use Rattle.yr_preserves.specs.Preserves.{IsTarget, HaveKindsOf}

-- on every target, with all values of the externals' kinds, it finds the matches and the truths of the rules, and no others
abbrev pub FindsSame : (List ℕ → ModuleValues) → (bytes : List ℕ) → PlainRules → Type 0
FindsSame modules bytes rules = (file : List ℕ) → IsTarget file → (values : List Value) → HaveKindsOf rules.externals values
    → (scan : ImageScan (modules file) bytes file values)
    → (scan.context.lists ≡ match_lists_of file rules.strings)
    × (scan.truths ≡ truths_of (environment_of (modules file) rules values file) rules.rules)
