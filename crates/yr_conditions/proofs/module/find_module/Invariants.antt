use Rattle.std.proofs.Common.{◌≡◌, map, drop}
use Rattle.yr_conditions.specs.Meanings.{module_named}
use Rattle.yr_values.specs.Names.{module_shown}
use Rattle.yr_conditions.proofs.module.find_module.Given as goal

abbrev pub invariant-loop-module : goal.invariant-loop-module
invariant-loop-module l = module_named (map module_shown (drop l.module-index l.modules)) l.name ≡ module_named (map module_shown l.modules) l.name
