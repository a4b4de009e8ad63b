use Rattle.std.proofs.Common.{◌≡◌, map, take}
use Rattle.yr_syntax.specs.Condition.{item_of}
use Rattle.yr_name_tables.specs.Names.{numbers_meant}
use Rattle.yr_name_tables.proofs.walk.numbers_walked.Given as goal

abbrev pub invariant-loop-number : goal.invariant-loop-number
invariant-loop-number l = l.met.items ≡ numbers_meant (map item_of l.items) 0 (take l.number l.names)
