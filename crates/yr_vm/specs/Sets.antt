-- What a set of strings or of rules gives for its quantifier.
use Rattle.std.specs.Prelude.{ℕ, Bool, List, length, map, Option, Some, option_map}
use Rattle.std.specs.List.{list_any}
use Rattle.yr_values.specs.Values.{Value}
use Rattle.yr_values.specs.declared.quantifier.Quantifier.{Quantifier}
use Rattle.yr_answer.specs.MatchList.{Match}
use Rattle.yr_answer.specs.Lookups.{list_at}
use Rattle.yr_answer.specs.Turns.{judged}
use Rattle.yr_image.specs.declared.instruction.OfForm.{OfForm}
use Rattle.yr_image.specs.declared.instruction.OfForm.TheVariants as form
use Rattle.yr_vm.specs.Earlier.{truth_in}

-- the answers of strings to what is asked of their matches
abbrev pub answers_in : (lists : List (List Match)) → (members : List ℕ) → (Match → Bool) → List Bool
answers_in lists members test = map (λ k. list_any test (list_at lists k)) members

abbrev pub strings_value : (lists : List (List Match)) → (members : List ℕ) → Option Quantifier → Option (Match → Bool) → Value
strings_value lists members quantifier asked = judged quantifier (option_map (answers_in lists members) asked)

abbrev pub rules_value : (truths : List Bool) → (members : List ℕ) → Option Quantifier → Value
rules_value truths members quantifier = judged quantifier (Some (map (truth_in truths) members))

-- members of a set are below this: of strings, or of rules
abbrev pub set_bound : OfForm → (strings rules : ℕ) → ℕ
set_bound form.Match strings rules = strings
set_bound form.MatchAt strings rules = strings
set_bound form.MatchIn strings rules = strings
set_bound form.Rules strings rules = rules
