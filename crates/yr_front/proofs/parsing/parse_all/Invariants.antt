use Rattle.std.proofs.Common.{◌≡◌, List, All, map, take, drop}
use Rattle.yr_syntax.specs.Declaration.{declarations_of}
use Rattle.yr_syntax.specs.Forms.{HaveForms}
use Rattle.yr_checks.specs.Sources.{unit_of}
use Rattle.yr_outcome.specs.Front.{Reading, IsReading, unit_trees}
use Rattle.yr_values.specs.Names.{NamedModule}
use Rattle.yr_front.specs.Units.{unit_shown, behind}
use Rattle.yr_front.proofs.parsing.parse_all.Given as goal

abbrev pub invariant-loop-unit : goal.invariant-loop-unit
invariant-loop-unit l = record {
  parsed : (reading : Reading) → IsReading reading → (modules : List NamedModule)
      → unit_trees reading modules (map unit_shown l.units) ≡ behind (map unit_of l.trees.items) (unit_trees reading modules (map unit_shown (drop l.unit-index l.units)));
  spaces : map (λ u. u.namespace.items) l.trees.items ≡ map (λ u. u.space.now) (take l.unit-index l.units);
  forms : All (λ u. HaveForms (declarations_of u.decls)) l.trees.items;
}
