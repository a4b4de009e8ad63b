-- The checked rules of all units, or why they are refused: the first rule at which a check fails, and the first check that does.
use Rattle.std.specs.Prelude.{◌≡◌, ℕ, ◌<◌, List, [], ◌∷◌, slice_get, Option, Some, None, Result, Ok, Err}
use Rattle.std.specs.Option.{option_map}
use Rattle.yr_rules.specs.Rules.{PlainRules}
use Rattle.yr_checks.specs.declared.check.Check.{Check}
use Rattle.yr_checks.specs.declared.check.Check.TheVariants as check
use Rattle.yr_checks.specs.declared.refusal.Code.{Code}
use Rattle.yr_checks.specs.declared.refusal.Code.TheVariants as code
use Rattle.yr_checks.specs.declared.refusal.Refusal.{Refusal}
use Rattle.yr_name_tables.specs.Names.{Name, first}
use Rattle.yr_checks.specs.Sources.{Item, UnitTree, PlacedRule, PlacedImport, Place, AtRule, AtEnd, places, items_of, number_of, last_imports, before}
use Rattle.yr_checks.specs.Given.{Given, Finding, where_true}
use Rattle.yr_checks.specs.Checks.{rule_finding, unknown_module, is_heavy}
use Rattle.yr_checks.specs.Checked.{checked_rules}

-- the number of a check, by which they are ordered
abbrev pub order : Check → ℕ
order check.Imports = 1
order check.RuleName = 2
order check.RuleWildcards = 3
order check.Tags = 4
order check.StringNames = 5
order check.Texts = 6
order check.Modifiers = 7
order check.HexStrings = 8
order check.Expressions = 9
order check.Sizes = 10
order check.StringsUsed = 11
order check.NamesUsed = 12
order check.Kinds = 13
order check.UnusedStrings = 14
order check.LoopDepth = 15
order check.ListLength = 16
order check.Counts = 17
order check.Weight = 18

-- all checks in their order
abbrev pub checks : List Check
checks =
    check.Imports ∷ check.RuleName ∷ check.RuleWildcards ∷ check.Tags ∷ check.StringNames ∷ check.Texts ∷ check.Modifiers ∷ check.HexStrings ∷ check.Expressions
    ∷ check.Sizes ∷ check.StringsUsed ∷ check.NamesUsed ∷ check.Kinds ∷ check.UnusedStrings ∷ check.LoopDepth ∷ check.ListLength ∷ check.Counts ∷ check.Weight ∷ []

-- a refusal as plain data
pub record PlainRefusal : Type 0 where
  pub check : ℕ
  pub code : Code
  pub unit : ℕ
  pub file : ℕ
  pub line : ℕ
  pub rule : Option ℕ
  pub named : Name
  pub place : Option ℕ

-- the plain refusal
abbrev pub refusal_of : Refusal → PlainRefusal
refusal_of r = record {
  check = r.check;
  code = r.code;
  unit = r.unit;
  file = r.file;
  line = r.line;
  rule = r.rule;
  named = r.named.items;
  place = r.place;
}

-- a finding at a rule has the rule's unit, file and line
abbrev pub at_rule : PlacedRule → Check → Finding → PlainRefusal
at_rule p c f = record {
  check = order c;
  code = f.code;
  unit = p.unit;
  file = p.rule.file;
  line = p.rule.line;
  rule = Some (number_of p);
  named = f.named;
  place = f.place;
}

-- an import that names no module has its own, and no rule
abbrev pub at_import : PlacedImport → PlainRefusal
at_import i = record {
  check = order check.Imports;
  code = code.UnknownModule;
  unit = i.unit;
  file = i.file;
  line = i.line;
  rule = None;
  named = i.name;
  place = None;
}

-- past the last rule there is no place
abbrev pub at_end : Finding → PlainRefusal
at_end f = record { check = order check.Weight; code = f.code; unit = 0; file = 0; line = 0; rule = None; named = f.named; place = f.place }

-- an import after the rule before names no module
abbrev pub import_fault : Given → List Item → Option PlainRefusal
import_fault given items = option_map at_import (first (unknown_module given.modules) (last_imports items))

-- why a check fails at a place, or none; past the last rule there are imports and the weight alone
abbrev pub fault : Given → Place → Check → Option PlainRefusal
fault given place check.Imports = import_fault given (before place)
fault given (AtRule p) c = option_map (at_rule p c) (rule_finding given p c)
fault given (AtEnd items) check.Weight = option_map at_end (where_true (is_heavy given (AtEnd items)) code.TooHeavy)
fault given (AtEnd items) c = None

-- the first check that fails at a place
abbrev pub place_fault : Given → Place → Option PlainRefusal
place_fault given place = first (fault given place) checks

-- the first fault of all
abbrev pub first_fault : Given → List UnitTree → Option PlainRefusal
first_fault given units = first (place_fault given) (places (items_of units))

-- the refusal where there is one, else the rules
abbrev pub answer : PlainRules → Option PlainRefusal → Result PlainRules PlainRefusal
answer rules None = Ok rules
answer rules (Some refusal) = Err refusal

-- the checked rules, or the refusal with the least rule and for it the least check
abbrev pub resolved : Given → List UnitTree → Result PlainRules PlainRefusal
resolved given units = answer (checked_rules given (items_of units)) (first_fault given units)

-- a check fails at a place: it is the least that does there, and none fails at an earlier place
pub record IsRefused (given : Given) (units : List UnitTree) (r : PlainRefusal) : Type 0 where
  pub number : ℕ
  pub place : Place
  pub check : Check
  pub there : slice_get (places (items_of units)) number ≡ Some place
  pub fails : fault given place check ≡ Some r
  pub least_check : (c : Check) → order c < order check → fault given place c ≡ None
  pub least_place : (k : ℕ) (earlier : Place) (c : Check) → k < number → slice_get (places (items_of units)) k ≡ Some earlier → fault given earlier c ≡ None

-- no check fails at any place
abbrev pub IsPassed : Given → List UnitTree → Type 0
IsPassed given units = (k : ℕ) (place : Place) (c : Check) → slice_get (places (items_of units)) k ≡ Some place → fault given place c ≡ None
