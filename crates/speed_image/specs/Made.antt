-- Rules each of which has one string of its own, and holds where that is found.
use Rattle.std.specs.Prelude.{◌≡◌, ℕ, List, [], length, codes, false, Some, slice_get, All}
use Rattle.yr_pattern.specs.Variants.{PlainVariant}
use Rattle.yr_rules.specs.declared.members.StringRef.TheVariants as ref
use Rattle.yr_rules.specs.NodeTree.{Found, Anywhere}
use Rattle.yr_rules.specs.Rules.{PlainString, PlainRule}
use Rattle.yr_rules.specs.Wellformed.{IsGoodString}

-- rule k, whose string has the same number
abbrev pub plain_rule : ℕ → PlainRule
plain_rule k = record {
  space = codes "default";
  name = codes "made";
  global = false;
  hidden = false;
  tags = [];
  meta = [];
  first_string = k;
  string_count = 1;
  condition = Found (ref.Known k) Anywhere;
}

-- the string of rule k
abbrev pub plain_string : ℕ → List PlainVariant → PlainString
plain_string k variants = record { name = codes "a"; rule = k; hidden = false; greedy = false; variants = variants }

-- rules with their strings
pub record AreMade (rules : List PlainRule) (strings : List PlainString) : Type 0 where
  pub as_many : length rules ≡ length strings
  pub are : (k : ℕ) (rule : PlainRule) → slice_get rules k ≡ Some rule → rule ≡ plain_rule k
  pub own : (k : ℕ) (string : PlainString) → slice_get strings k ≡ Some string → string.rule ≡ k
  pub good : All IsGoodString strings
