use Rattle.std.proofs.Common.{◌≡◌, ◌++◌, take, map}
use Rattle.yr_syntax.specs.Declaration.{declaration_of}
use Rattle.yr_checking.specs.Placed.{item_at}
use Rattle.yr_checks.specs.Sources.{item_of}
use Rattle.yr_checking.proofs.items.push_unit.Given as goal

abbrev pub invariant-loop-decl : goal.invariant-loop-decl
invariant-loop-decl l =
    map item_at l.all.items ≡ map item_at l.initial.all.items ++ map (item_of l.number l.unit.namespace.items) (map declaration_of (take l.decl-index l.unit.decls.items))
