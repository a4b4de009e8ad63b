-- What makes a checked condition fit: names are looked up within the rows that there are, and what the condition uses is within the limits.
use Rattle.std.specs.Prelude.{◌≡◌, ◌+◌, ◌≤◌, ◌<◌, [], length, true, is_some, Some, Ok}
use Rattle.yr_pattern.specs.Sizes.{size_of}
use Rattle.yr_syntax.specs.Forms.{Each}
use Rattle.yr_syntax.specs.Height as tree_height
use Rattle.yr_rules.specs.NodeTree.{NodeTree}
use Rattle.yr_rules.specs.Rules.{PlainRules}
use Rattle.yr_rules.specs.Kinds.{kind_of}
use Rattle.yr_rules.specs.Height.{height}
use Rattle.yr_checks.specs.Sources.{PlacedRule, number_of}
use Rattle.yr_checks.specs.Given.{Given, rule_node}
use Rattle.yr_rules.specs.Fits.{Fits, Rows, loop_limit, list_limit, size_limit}
use Rattle.yr_conditions.specs.Readers.{Readers, Expression, expression_of}
use Rattle.yr_conditions.specs.Meanings.{Around}
use Rattle.yr_conditions.specs.Uses as use'
use Rattle.yr_conditions.specs.Uses.{Use}

-- externals, earlier rules and strings are among the rows
pub record LiesIn (rows : Rows) (around : Around) : Type 0 where
  pub externals : length around.externals ≤ rows.externals
  pub rules : Each (λ r. r.number < rows.rules) around.rules
  pub strings : around.first_string + length around.strings ≤ rows.strings

-- a loop stands in few others, a list has few items, an expression has a small pattern
abbrev pub IsWithin : Readers → Use → Type 0
IsWithin readers (use'.Loop round) = round < loop_limit
IsWithin readers (use'.Listed items) = items ≤ list_limit
IsWithin readers (use'.Expression r) = (e : Expression) → expression_of readers r ≡ Ok e → size_of e.pattern ≤ size_limit
IsWithin readers (use'.String sign n) = Unit {0}
IsWithin readers (use'.Nameless sign) = Unit {0}
IsWithin readers (use'.Member n wild) = Unit {0}
IsWithin readers use'.Everything = Unit {0}
IsWithin readers (use'.Earlier n wild) = Unit {0}
IsWithin readers (use'.Unknown w) = Unit {0}

-- a rule that passes the checks: its checked condition is there, has a kind at each place, fits the rules, and is no higher than the condition
pub record IsSoundRule (given : Given) (rules : PlainRules) (p : PlacedRule) : Type 0 where
  pub condition : NodeTree
  pub made : rule_node given p ≡ Some condition
  pub kinds : is_some (kind_of given.externals condition []) ≡ true
  pub fits : Fits (record { externals = length given.externals; rules = number_of p; strings = length rules.strings }) condition []
  pub low : height condition ≤ tree_height.height p.rule.condition
