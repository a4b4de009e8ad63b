-- The checks in the order in which the code makes them: those that look at no condition, the others, and the weight.
use Rattle.std.specs.Prelude.{Option, None}
use Rattle.yr_checks.specs.declared.check.Check.{Check}
use Rattle.yr_checks.specs.declared.check.Check.TheVariants as check
use Rattle.yr_checks.specs.Sources.{PlacedRule}
use Rattle.yr_checks.specs.Given.{Given, Finding}
use Rattle.yr_checks.specs.Checks.{rule_finding}
use Rattle.yr_checking.specs.Findings.{finding_of}
use Rattle.yr_checks.specs.Refusals.{PlainRefusal, at_rule}
use Rattle.yr_checking.specs.declared.stages.Fault.{Fault}
use Rattle.std.specs.Option.{option_map}

abbrev pub early_finding : Given → PlacedRule → Check → Option Finding
early_finding given p check.Imports = None
early_finding given p check.RuleName = rule_finding given p check.RuleName
early_finding given p check.RuleWildcards = rule_finding given p check.RuleWildcards
early_finding given p check.Tags = rule_finding given p check.Tags
early_finding given p check.StringNames = rule_finding given p check.StringNames
early_finding given p check.Texts = rule_finding given p check.Texts
early_finding given p check.Modifiers = rule_finding given p check.Modifiers
early_finding given p check.HexStrings = None
early_finding given p check.Expressions = None
early_finding given p check.Sizes = None
early_finding given p check.StringsUsed = None
early_finding given p check.NamesUsed = None
early_finding given p check.Kinds = None
early_finding given p check.UnusedStrings = None
early_finding given p check.LoopDepth = None
early_finding given p check.ListLength = None
early_finding given p check.Counts = None
early_finding given p check.Weight = None

abbrev pub late_finding : Given → PlacedRule → Check → Option Finding
late_finding given p check.Imports = None
late_finding given p check.RuleName = None
late_finding given p check.RuleWildcards = None
late_finding given p check.Tags = None
late_finding given p check.StringNames = None
late_finding given p check.Texts = None
late_finding given p check.Modifiers = None
late_finding given p check.HexStrings = rule_finding given p check.HexStrings
late_finding given p check.Expressions = rule_finding given p check.Expressions
late_finding given p check.Sizes = rule_finding given p check.Sizes
late_finding given p check.StringsUsed = rule_finding given p check.StringsUsed
late_finding given p check.NamesUsed = rule_finding given p check.NamesUsed
late_finding given p check.Kinds = rule_finding given p check.Kinds
late_finding given p check.UnusedStrings = rule_finding given p check.UnusedStrings
late_finding given p check.LoopDepth = rule_finding given p check.LoopDepth
late_finding given p check.ListLength = rule_finding given p check.ListLength
late_finding given p check.Counts = rule_finding given p check.Counts
late_finding given p check.Weight = None

abbrev pub early_fault : Given → PlacedRule → Check → Option PlainRefusal
early_fault given p c = option_map (at_rule p c) (early_finding given p c)

abbrev pub late_fault : Given → PlacedRule → Check → Option PlainRefusal
late_fault given p c = option_map (at_rule p c) (late_finding given p c)

-- the refusal that a fault of the code stands for
abbrev pub fault_at : PlacedRule → Fault → PlainRefusal
fault_at p f = at_rule p f.check (finding_of f.finding)
