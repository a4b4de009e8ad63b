-- A rule with what the later checks look at.
use Rattle.std.specs.Prelude.{◌≡◌, ◌≤◌, []}
use Rattle.std.specs.Option.{option_map, option_and_then}
use Rattle.yr_name_tables.specs.Names.{first}
use Rattle.yr_rules.specs.Kinds.{kind_of}
use Rattle.yr_checking.specs.declared.late.Examined.{Examined}
use Rattle.yr_checking.specs.AtHand.{IsAtHand, given_at, placed_at}
use Rattle.yr_checking.specs.Findings.{finding_of, named_of}
use Rattle.yr_checks.specs.Given.{rule_names, rule_node, rule_uses, string_names}
use Rattle.yr_checks.specs.Checks.{unknown_name, unknown_string, unused_string}
use Rattle.yr_checks.specs.Patterns.{bad_hex, bad_regex, bad_use, large_string, large_use}
use Rattle.yr_checks.specs.Sources.{earlier, number_of, first_string_of}
use Rattle.yr_conditions.specs.Fixed.{the_readers}

pub record IsExamined (e : Examined) : Type 0 where
  pub at : IsAtHand e.at.now
  pub uses : e.uses.now ≡ rule_uses (given_at e.at.now) (placed_at e.at.now)
  pub bad_hex : option_map finding_of e.bad_hex ≡ first (bad_hex the_readers) (placed_at e.at.now).rule.strings
  pub bad_regex : option_map finding_of e.bad_regex ≡ first (bad_regex the_readers) (placed_at e.at.now).rule.strings
  pub large : option_map finding_of e.large ≡ first (large_string the_readers) (placed_at e.at.now).rule.strings
  pub bad_use : option_map finding_of e.bad_use ≡ first (bad_use the_readers) (rule_uses (given_at e.at.now) (placed_at e.at.now))
  pub large_use : option_map finding_of e.large_use ≡ first (large_use the_readers) (rule_uses (given_at e.at.now) (placed_at e.at.now))
  pub unknown_string : option_map named_of e.unknown_string ≡ first (unknown_string (string_names (placed_at e.at.now).rule)) (rule_uses (given_at e.at.now) (placed_at e.at.now))
  pub unknown_name : option_map named_of e.unknown_name ≡ first (unknown_name (rule_names (earlier (placed_at e.at.now)))) (rule_uses (given_at e.at.now) (placed_at e.at.now))
  pub unused : option_map named_of e.unused ≡ first (unused_string (rule_uses (given_at e.at.now) (placed_at e.at.now))) (string_names (placed_at e.at.now).rule)
  pub kind : e.kind ≡ option_and_then (λ node. kind_of (given_at e.at.now).externals node []) (rule_node (given_at e.at.now) (placed_at e.at.now))
  pub rules_before : e.rules_before ≡ number_of (placed_at e.at.now)
  pub strings_before : e.strings_before ≡ first_string_of (placed_at e.at.now)
  pub few_rules : e.rules_before ≤ 65535
  pub few_strings : e.strings_before ≤ 65535
