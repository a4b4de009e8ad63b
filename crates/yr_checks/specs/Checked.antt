-- The checked rules.
use Rattle.std.specs.Prelude.{ℕ, List, [], ◌∷◌, map, length, Option, Some, None}
use Rattle.std.specs.Option.{option_map}
use Rattle.std.specs.List.{flat_map}
use Rattle.yr_syntax.specs.Declaration.{StringTree}
use Rattle.yr_rules.specs.Rules.{PlainString, PlainRule, PlainRules}
use Rattle.yr_rules.specs.NodeTree.{NodeTree}
use Rattle.yr_checks.specs.Sources.{Item, PlacedRule, rules_in, number_of, first_string_of}
use Rattle.yr_conditions.specs.Readers.{Readers, modifiers_of, string_variants, string_greed}
use Rattle.yr_checks.specs.Given.{Given, rule_node}

-- a string with its variants and its greed, as one of the rule of this number
abbrev pub checked_string : Readers → ℕ → StringTree → PlainString
checked_string readers number s = record {
  name = s.name;
  rule = number;
  hidden = (modifiers_of s).hidden;
  greedy = string_greed readers s;
  variants = string_variants readers s;
}

-- the strings of a rule
abbrev pub checked_strings : Given → PlacedRule → List PlainString
checked_strings given p = map (checked_string given.readers (number_of p)) p.rule.strings

-- the rule with this checked condition
abbrev pub with_node : PlacedRule → NodeTree → PlainRule
with_node p node = record {
  space = p.space;
  name = p.rule.name;
  global = p.rule.global;
  hidden = p.rule.hidden;
  tags = p.rule.tags;
  meta = p.rule.meta;
  first_string = first_string_of p;
  string_count = length p.rule.strings;
  condition = node;
}

-- the rule, where its condition stands for a checked one
abbrev pub checked_rule : Given → PlacedRule → Option PlainRule
checked_rule given p = option_map (with_node p) (rule_node given p)

-- those that are there
abbrev pub present : {A : Type 0} → List (Option A) → List A
present [] = []
present (None ∷ xs) = present xs
present (Some x ∷ xs) = x ∷ present xs

-- the checked rules of these items, with their strings and the externals
abbrev pub checked_rules : Given → List Item → PlainRules
checked_rules given items = record {
  rules = present (map (checked_rule given) (rules_in items));
  strings = flat_map (checked_strings given) (rules_in items);
  externals = given.externals;
}
