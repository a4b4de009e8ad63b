use Rattle.std.proofs.Common.{◌≡◌, drop, true}
use Rattle.std.specs.List.{list_any}
use Rattle.yr_name_tables.specs.Names.{means}
use Rattle.yr_name_tables.proofs.walk.begins_one.Given as goal

abbrev pub invariant-loop-number : goal.invariant-loop-number
invariant-loop-number l = list_any (means l.front true) l.names ≡ list_any (means l.front true) (drop l.number l.names)
