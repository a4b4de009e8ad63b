-- A rule at hand: where it stands, and what the code keeps of what stands before it.
use Rattle.std.specs.Prelude.{◌≡◌, map, take}
use Rattle.std.specs.List.{flat_map}
use Rattle.yr_syntax.specs.Declaration.{rule_of}
use Rattle.yr_rules.specs.Rules.{external_of}
use Rattle.yr_conditions.specs.Fixed.{the_readers}
use Rattle.yr_checking.specs.declared.at_hand.AtHand.{AtHand}
use Rattle.yr_checks.specs.Checks.{wildcards}
use Rattle.yr_checks.specs.Given.{Given, external_names, rule_names}
use Rattle.yr_checking.specs.Placed.{item_at}
use Rattle.yr_checks.specs.Resolving.{given_by}
use Rattle.yr_checks.specs.Sources.{PlacedRule, earlier, imports, number_of}

abbrev pub given_at : AtHand → Given
given_at at = given_by the_readers at.names.now at.externals.now

abbrev pub placed_at : AtHand → PlacedRule
placed_at at = record {
  before = take at.place (map item_at at.items.now);
  unit = at.unit;
  space = at.namespace.now;
  rule = rule_of at.rule.now;
}

-- the tables say what the definitions say
pub record IsAtHand (at : AtHand) : Type 0 where
  pub names : at.external_names.now ≡ external_names (map external_of at.externals.now)
  pub imports : at.space.now.imports ≡ imports (placed_at at)
  pub rules : at.space.now.rules ≡ rule_names (earlier (placed_at at))
  pub numbers : at.space.now.numbers.items ≡ map number_of (earlier (placed_at at))
  pub fronts : at.space.now.fronts ≡ flat_map (wildcards (given_at at)) (earlier (placed_at at))
