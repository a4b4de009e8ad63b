-- The checks on rules: what each finds at a rule.
use Rattle.std.specs.Prelude.{◌+◌, Bool, true, false, not, ◌||◌, is_none, List, [], ◌∷◌, filter, length, nat_lt, Option, Some, None, if◌then◌else◌, codes, bytes_eq}
use Rattle.std.specs.Option.{option_map, option_and_then, option_or}
use Rattle.std.specs.List.{list_any, flat_map}
use Rattle.yr_values.specs.Names.{NamedModule}
use Rattle.yr_rules.specs.Kinds.{kind_of}
use Rattle.yr_rules.specs.Fits.{loop_limit, list_limit}
use Rattle.yr_rules.specs.Weight.{weight_of, weight_limit}
use Rattle.yr_rules.specs.Wellformed.{count_limit}
use Rattle.yr_checks.specs.declared.check.Check.{Check}
use Rattle.yr_checks.specs.declared.check.Check.TheVariants as check
use Rattle.yr_checks.specs.declared.refusal.Code.TheVariants as code
use Rattle.yr_name_tables.specs.Names.{Name, has, has_front, begins, means, means_some, first, first_twice, with_sign, with_star}
use Rattle.yr_checks.specs.Sources.{PlacedRule, PlacedImport, Place, AtRule, number_of, first_string_of, earlier, up_to}
use Rattle.yr_conditions.specs.Meanings.{module_named}
use Rattle.yr_conditions.specs.Uses as use'
use Rattle.yr_conditions.specs.Uses.{Use}
use Rattle.yr_checks.specs.Given.{Given, Finding, naming, name_if, where_true, external_names, rule_names, string_names, rule_node, rule_uses}
use Rattle.yr_checks.specs.Patterns.{bad_hex, bad_modifiers, bad_regex, bad_use, empty_string, large_string, large_use}
use Rattle.yr_checks.specs.Checked.{checked_rules}

-- ---- names of rules and strings

-- the front that an item of a set of rules gives with a `*`
abbrev pub wildcard : Use → List Name
wildcard (use'.Earlier n true) = n ∷ []
wildcard other = []

-- the wildcards for rules in a condition
abbrev pub wildcards : Given → PlacedRule → List Name
wildcards given p = flat_map wildcard (rule_uses given p)

-- an earlier rule of its namespace or an external has the rule's name
abbrev pub is_taken : Given → PlacedRule → Bool
is_taken given p = has p.rule.name (rule_names (earlier p)) || has p.rule.name (external_names given.externals)

-- an earlier rule of its namespace has a wildcard that the rule's name begins with
abbrev pub is_claimed : Given → PlacedRule → Bool
is_claimed given p = has_front (flat_map (wildcards given) (earlier p)) p.rule.name

-- a name other than the empty one
abbrev pub is_named : Name → Bool
is_named [] = false
is_named (b ∷ bs) = true

-- ---- names that the condition uses

-- the token of a name that no string has, or of a sign that means none
abbrev pub unknown_string : List Name → Use → Option Name
unknown_string strings (use'.String sign n) = name_if (not (has n strings)) (sign ∷ n)
unknown_string strings (use'.Nameless sign) = Some (sign ∷ [])
unknown_string strings (use'.Member n wild) = name_if (not (means_some n wild strings)) (with_star (with_sign n) wild)
unknown_string strings other = None

-- a word without a meaning, a field that its module lacks, an item that no earlier rule of the namespace meets
abbrev pub unknown_name : List Name → Use → Option Name
unknown_name rules (use'.Unknown w) = Some w
unknown_name rules (use'.Earlier n wild) = name_if (not (means_some n wild rules)) n
unknown_name rules other = None

-- whether the use names the string or has it in a set
abbrev pub uses_string : Name → Use → Bool
uses_string s (use'.String sign n) = bytes_eq n s
uses_string s (use'.Member n wild) = means n wild s
uses_string s use'.Everything = true
uses_string s other = false

-- the string, where nothing uses it and its name does not begin with `_`
unfoldable pub unused_string : List Use → Name → Option Name
unused_string uses s = name_if (not (begins (codes "_") s || list_any (uses_string s) uses)) (with_sign s)

-- ---- limits

-- a loop inside too many others
abbrev pub is_deep : Use → Bool
is_deep (use'.Loop round) = not (nat_lt round loop_limit)
is_deep other = false

-- a list with too many items
abbrev pub is_long : Use → Bool
is_long (use'.Listed items) = nat_lt list_limit items
is_long other = false

-- there are too many rules or strings up to this rule
abbrev pub is_many : PlacedRule → Bool
is_many p = nat_lt count_limit (number_of p + 1) || nat_lt count_limit (first_string_of p + length p.rule.strings)

-- the rules up to here weigh too much
abbrev pub is_heavy : Given → Place → Bool
is_heavy given place = nat_lt weight_limit (weight_of (checked_rules given (up_to place)))

-- ---- the checks

-- the import, where it names no module
abbrev pub unknown_module : List NamedModule → PlacedImport → Option PlacedImport
unknown_module modules i = if is_none (module_named modules i.name) then Some i else None

-- what a check finds at a rule; imports stand between rules and are checked there
abbrev pub rule_finding : Given → PlacedRule → Check → Option Finding
rule_finding given p check.Imports = None
rule_finding given p check.RuleName = where_true (is_taken given p) code.DuplicateRule
rule_finding given p check.RuleWildcards = where_true (is_claimed given p) code.WildcardRule
rule_finding given p check.Tags = naming code.DuplicateTag (first_twice p.rule.tags)
rule_finding given p check.StringNames = naming code.DuplicateString (option_map with_sign (first_twice (filter is_named (string_names p.rule))))
rule_finding given p check.Texts = naming code.EmptyString (first empty_string p.rule.strings)
rule_finding given p check.Modifiers = naming code.BadModifiers (first bad_modifiers p.rule.strings)
rule_finding given p check.HexStrings = first (bad_hex given.readers) p.rule.strings
rule_finding given p check.Expressions = option_or (first (bad_regex given.readers) p.rule.strings) (first (bad_use given.readers) (rule_uses given p))
rule_finding given p check.Sizes = option_or (first (large_string given.readers) p.rule.strings) (first (large_use given.readers) (rule_uses given p))
rule_finding given p check.StringsUsed = naming code.UnknownString (first (unknown_string (string_names p.rule)) (rule_uses given p))
rule_finding given p check.NamesUsed = naming code.UnknownName (first (unknown_name (rule_names (earlier p))) (rule_uses given p))
rule_finding given p check.Kinds =
    where_true (is_none (option_and_then (λ node. kind_of given.externals node []) (rule_node given p))) code.WrongType
rule_finding given p check.UnusedStrings = naming code.UnusedString (first (unused_string (rule_uses given p)) (string_names p.rule))
rule_finding given p check.LoopDepth = where_true (list_any is_deep (rule_uses given p)) code.LoopDepth
rule_finding given p check.ListLength = where_true (list_any is_long (rule_uses given p)) code.ListTooLong
rule_finding given p check.Counts = where_true (is_many p) code.TooMany
rule_finding given p check.Weight = where_true (is_heavy given (AtRule p)) code.TooHeavy
