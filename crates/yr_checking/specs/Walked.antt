-- What the code keeps of the imports and rules that it has seen.
use Rattle.std.specs.Prelude.{◌≡◌, ℕ, ◌≤◌, ◌-◌, ◌^◌, ◌++◌, ◌∷◌, [], List, map, min, length, set, Option, Some, None, slice_get}
use Rattle.yr_syntax.specs.Declaration.{declaration_of}
use Rattle.yr_syntax.specs.Forms.{DeclarationHasForms, Each}
use Rattle.yr_syntax.specs.declared.declaration.Rule.{Rule as RuleType}
use Rattle.yr_rules.specs.Rules.{external_of, rule_of as checked_rule_of, string_of as checked_string_of}
use Rattle.yr_rules.specs.Weight.{weight_of}
use Rattle.yr_name_tables.specs.Names.{Name, first}
use Rattle.yr_conditions.specs.Fixed.{the_readers}
use Rattle.yr_checking.specs.declared.judging.Made.{Made}
use Rattle.yr_checking.specs.declared.space.Space.{Space}
use Rattle.yr_checking.specs.declared.walking.Setting.{Setting}
use Rattle.yr_checking.specs.declared.walking.Walk.{Walk}
use Rattle.yr_checks.specs.Checked.{checked_rules}
use Rattle.yr_checks.specs.Checks.{unknown_module}
use Rattle.yr_checks.specs.Given.{Given, external_names}
use Rattle.yr_checks.specs.Refusals.{PlainRefusal, place_fault}
use Rattle.yr_checks.specs.Resolving.{given_by}
use Rattle.yr_checks.specs.Sources.{Item, AtRule, last_imports, places, rules_in}
use Rattle.yr_checking.specs.Spaces.{found_space, space_at, space_shown, with_rule}

abbrev pub given_in : Setting → Given
given_in s = given_by the_readers s.names.now s.externals.now

-- the names of the externals have their numbers, and each declaration has its forms
pub record IsSetting (s : Setting) : Type 0 where
  pub names : s.external_names.now ≡ external_names (map external_of s.externals.now)
  pub forms : Each (λ p. DeclarationHasForms (declaration_of p.decl.now)) s.items.now

-- the first fault of all items
abbrev pub fault_in : Given → List Item → Option PlainRefusal
fault_in given items = first (place_fault given) (places items)

-- what is kept of items at which no check fails
pub record IsWalked (given : Given) (seen : List Item) (walk : Walk) : Type 0 where
  pub spaces : (q : Name) → found_space q walk.spaces.items ≡ space_at given seen q
  pub rules : map checked_rule_of walk.rules.items ≡ (checked_rules given seen).rules
  pub strings : map checked_string_of walk.strings.items ≡ (checked_rules given seen).strings
  pub weight : walk.weight ≡ min (weight_of (checked_rules given seen)) (2 ^ 64 - 1)
  pub counted : length walk.rules.items ≡ length (rules_in seen)
  pub few_rules : length walk.rules.items ≤ 65535
  pub few_strings : length walk.strings.items ≤ 65535
  pub passed : first (place_fault given) (map AtRule (rules_in seen)) ≡ None
  pub known : first (unknown_module given.modules) (last_imports seen) ≡ None

-- a rule is kept: behind those of its namespace, and behind all rules and strings
pub record IsKept (old new : Walk) (number : ℕ) (rule : RuleType) (made : Made) : Type 0 where
  pub spaces : (s : Space) → slice_get old.spaces.items number ≡ Some s
      → (t : Space) × (new.spaces.items ≡ set old.spaces.items number t) × (t.name ≡ s.name)
      × (space_shown t ≡ with_rule rule.name.items (length old.rules.items) made.fronts.items (space_shown s))
  pub rules : new.rules.items ≡ old.rules.items ++ made.rule ∷ []
  pub strings : new.strings.items ≡ old.strings.items ++ made.strings.items
  pub weight : new.weight ≡ made.weight
