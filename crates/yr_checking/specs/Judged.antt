-- What the code says of one rule.
use Rattle.std.specs.Prelude.{◌≡◌, ◌≤◌, ◌+◌, ◌-◌, ◌^◌, ◌++◌, length, ◌∷◌, [], map, min, Option, Some}
use Rattle.std.specs.Option.{option_map, option_or}
use Rattle.yr_name_tables.specs.Names.{first}
use Rattle.yr_rules.specs.Rules.{rule_of as checked_rule_of, string_of as checked_string_of}
use Rattle.yr_rules.specs.Weight.{weight_of}
use Rattle.yr_checks.specs.declared.check.Check.{Check}
use Rattle.yr_checks.specs.declared.check.Check.TheVariants as check
use Rattle.yr_checks.specs.declared.refusal.Code.TheVariants as code
use Rattle.yr_checking.specs.declared.judging.Before.{Before}
use Rattle.yr_checking.specs.declared.judging.Made.{Made}
use Rattle.yr_checks.specs.declared.refusal.ResolveFault.{ResolveFault}
use Rattle.yr_checks.specs.declared.refusal.ResolveFault.TheVariants as fault
use Rattle.yr_checks.specs.Sources.{Rule, PlacedRule, number_of, first_string_of}
use Rattle.yr_checks.specs.Given.{Given, finding}
use Rattle.yr_checks.specs.Checked.{checked_rule, checked_rules, checked_strings}
use Rattle.yr_checks.specs.Checks.{rule_finding, wildcards}
use Rattle.yr_checks.specs.Refusals.{PlainRefusal, at_rule, checks, refusal_of}
use Rattle.yr_checking.specs.Stages.{late_fault}

-- why a check on a rule fails
abbrev pub rule_fault : Given → PlacedRule → Check → Option PlainRefusal
rule_fault given p c = option_map (at_rule p c) (rule_finding given p c)

-- why the rules are too heavy up to a rule
abbrev pub weight_fault : Given → PlacedRule → Option PlainRefusal
weight_fault given p = rule_fault given p check.Weight

-- they are
abbrev pub IsTooHeavy : Given → PlacedRule → Type 0
IsTooHeavy given p = weight_fault given p ≡ Some (at_rule p check.Weight (finding code.TooHeavy []))

-- the first of the later checks that fails
abbrev pub rest_fault : Given → PlacedRule → Option PlainRefusal
rest_fault given p = option_or (first (late_fault given p) checks) (weight_fault given p)

-- what stands before a rule
pub record IsBefore (given : Given) (p : PlacedRule) (b : Before) : Type 0 where
  pub rules : b.rules ≡ number_of p
  pub strings : b.strings ≡ first_string_of p
  pub weight : b.weight ≡ min (weight_of (checked_rules given p.before)) (2 ^ 64 - 1)
  pub few_rules : b.rules ≤ 65535
  pub few_strings : b.strings ≤ 65535

-- what is kept of a rule that passes
pub record IsMade (given : Given) (p : PlacedRule) (made : Made) : Type 0 where
  pub rule : Some (checked_rule_of made.rule) ≡ checked_rule given p
  pub strings : map checked_string_of made.strings.items ≡ checked_strings given p
  pub fronts : made.fronts.items ≡ wildcards given p
  pub few_rules : number_of p + 1 ≤ 65535
  pub few_strings : first_string_of p + length p.rule.strings ≤ 65535
  pub weight : made.weight ≡ min (weight_of (checked_rules given (p.before ++ Rule p.unit p.space p.rule ∷ []))) (2 ^ 64 - 1)

-- an error is want of memory, or the refusal that there is
abbrev pub Explains : ResolveFault → Option PlainRefusal → Type 0
Explains (fault.Refused r) o = o ≡ Some (refusal_of r)
Explains fault.NoMemory o = Unit {0}
