-- What the checks are made with, what they find, and what stands round a rule.
use Rattle.std.specs.Prelude.{ℕ, Bool, List, [], map, filter, Option, Some, None, if◌then◌else◌}
use Rattle.std.specs.Option.{option_map}
use Rattle.yr_syntax.specs.Declaration.{RuleTree}
use Rattle.yr_values.specs.Names.{NamedModule}
use Rattle.yr_rules.specs.Rules.{PlainExternal}
use Rattle.yr_rules.specs.NodeTree.{NodeTree}
use Rattle.yr_checks.specs.declared.refusal.Code.{Code}
use Rattle.yr_name_tables.specs.Names.{Name, has}
use Rattle.yr_checks.specs.Sources.{PlacedRule, number_of, first_string_of, earlier, imports}
use Rattle.yr_conditions.specs.Readers.{Readers}
use Rattle.yr_conditions.specs.Meanings.{Around, EarlierRule}
use Rattle.yr_conditions.specs.Uses.{Use, uses_of}
use Rattle.yr_conditions.specs.Nodes.{node_of}

-- what the checks are made with: how strings are read, the modules that there are, and the externals
pub record Given : Type 0 where
  pub readers : Readers
  pub modules : List NamedModule
  pub externals : List PlainExternal

-- what a check finds: its code, what it names, and the place in a pattern
pub record Finding : Type 0 where
  pub code : Code
  pub named : Name
  pub place : Option ℕ

-- a finding without a place
abbrev pub finding : Code → Name → Finding
finding code named = record { code = code; named = named; place = None }

-- a finding that names nothing, where the test holds
abbrev pub where_true : Bool → Code → Option Finding
where_true b code = if b then Some (finding code []) else None

-- a finding that names this, where there is something
abbrev pub naming : Code → Option Name → Option Finding
naming code named = option_map (finding code) named

-- the name, where the test holds
abbrev pub name_if : Bool → Name → Option Name
name_if b n = if b then Some n else None

-- the names of the rules
abbrev pub rule_names : List PlacedRule → List Name
rule_names rules = map (λ p. p.rule.name) rules

-- the names of the externals
abbrev pub external_names : List PlainExternal → List Name
external_names externals = map (λ e. e.name) externals

-- the names of a rule's strings, in order
abbrev pub string_names : RuleTree → List Name
string_names rule = map (λ s. s.name) rule.strings

-- a rule by its name and its number
abbrev pub earlier_rule : PlacedRule → EarlierRule
earlier_rule p = record { name = p.rule.name; number = number_of p }

-- the module's name is among these
abbrev pub is_imported : List Name → NamedModule → Bool
is_imported names m = has m.name names

-- what stands round a rule: the modules that its namespace imports before it, the externals, the earlier rules of its namespace, its strings
abbrev pub around : Given → PlacedRule → Around
around given p = record {
  modules = filter (is_imported (imports p)) given.modules;
  externals = given.externals;
  rules = map earlier_rule (earlier p);
  strings = string_names p.rule;
  first_string = first_string_of p;
}

-- what the rule's condition uses
abbrev pub rule_uses : Given → PlacedRule → List Use
rule_uses given p = uses_of (around given p) p.rule.condition []

-- the checked condition
abbrev pub rule_node : Given → PlacedRule → Option NodeTree
rule_node given p = node_of given.readers (around given p) p.rule.condition []
