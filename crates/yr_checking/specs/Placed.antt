-- The imports and rules of all units as the code keeps them.
use Rattle.yr_syntax.specs.Declaration.{declaration_of}
use Rattle.yr_checking.specs.declared.items.Placed.{Placed}
use Rattle.yr_checks.specs.Sources.{Item, item_of}

abbrev pub item_at : Placed → Item
item_at p = item_of p.unit p.namespace.now (declaration_of p.decl.now)
