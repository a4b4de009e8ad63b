-- What the code keeps of what stands round a rule, as plain data.
use Rattle.std.specs.Prelude.{map}
use Rattle.yr_values.specs.Names.{module_shown}
use Rattle.yr_rules.specs.Rules.{external_of}
use Rattle.yr_conditions.specs.Meanings.{Around}
use Rattle.yr_conditions.specs.UseViews.{earlier_rules, imported_modules}
use Rattle.yr_conditions.specs.declared.around.Around.{Around as AroundType}

abbrev pub around_of : AroundType → Around
around_of a = record {
  modules = imported_modules a.imports.now (map module_shown a.modules.now);
  externals = map external_of a.externals.now;
  rules = earlier_rules a.rules.now a.rule_numbers.now;
  strings = a.strings.now;
  first_string = a.first_string;
}
