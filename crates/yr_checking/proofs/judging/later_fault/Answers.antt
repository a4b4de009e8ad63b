use Rattle.std.proofs.Common.{◌≡◌, List, [], map, sym, ap, ◌∙◌, subst}
use Rattle.yr_conditions.specs.Fixed.{the_readers}
use Rattle.yr_name_tables.specs.Names.{Name, first}
use Rattle.yr_syntax.specs.Forms.{Each}
use Rattle.yr_checks.specs.Checks.{unknown_name, unknown_string, unused_string}
use Rattle.yr_checks.specs.Given.{around, rule_names, rule_uses, string_names}
use Rattle.yr_checks.specs.Patterns.{bad_use, large_use}
use Rattle.yr_checks.specs.Sources.{earlier}
use Rattle.yr_conditions.specs.Uses.{Use}
use Rattle.yr_conditions.specs.UseViews.{use_of}
use Rattle.yr_checking.specs.Findings.{HasShortText}
use Rattle.yr_checking.specs.AtHand.{given_at, placed_at}
use Rattle.yr_checking.proofs.UseLemmas.{uses-short}
use Rattle.yr_checking.proofs.judging.later_fault.Goals as goal

pub first_expression_findings-requires : goal.first_expression_findings-requires
first_expression_findings-requires c =
    let given = given_at c.args.at.now in
    let p = placed_at c.args.at.now in
    subst (Each HasShortText) (sym (c.items-used.ensures ∙ c.requires.uses)) (uses-short (around given p) p.rule.condition [] c.requires.forms)

pub first_late-requires : goal.first_late-requires
first_late-requires c =
    let given = given_at c.args.at.now in
    let p = placed_at c.args.at.now in
    let found = map use_of c.items-used.result.now in
    let used : found ≡ rule_uses given p = c.items-used.ensures ∙ c.requires.uses in
    record {
      at = c.requires.at;
      uses = c.requires.uses;
      bad_hex = c.requires.bad_hex;
      bad_regex = c.requires.bad_regex;
      large = c.requires.large;
      bad_use = c.in_ok-expressions.ensures.bad ∙ ap (first (bad_use the_readers)) used;
      large_use = c.in_ok-expressions.ensures.large ∙ ap (first (large_use the_readers)) used;
      unknown_string =
          c.in_ok-unknown_string.ensures
          ∙ ap (λ (ns : List Name). first (unknown_string ns) found) c.requires.strings
          ∙ ap (first (unknown_string (string_names p.rule))) used;
      unknown_name =
          c.in_ok-unknown_name.ensures
          ∙ ap (λ (ns : List Name). first (unknown_name ns) found) c.requires.at.rules
          ∙ ap (first (unknown_name (rule_names (earlier p)))) used;
      unused =
          c.in_ok-unused.ensures
          ∙ ap (λ (us : List Use). first (unused_string us) c.args.strings.now) used
          ∙ ap (first (unused_string (rule_uses given p))) c.requires.strings;
      kind = c.requires.kind;
      rules_before = c.requires.before.rules;
      strings_before = c.requires.before.strings;
      few_rules = c.requires.before.few_rules;
      few_strings = c.requires.before.few_strings;
    }
