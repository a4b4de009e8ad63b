use Rattle.std.proofs.Common.{◌≡◌, drop}
use Rattle.yr_name_tables.specs.Names.{first}
use Rattle.yr_checking.specs.Unused.{without_use}
use Rattle.yr_checking.proofs.unused.first_without_use.Given as goal

abbrev pub invariant-loop-number : goal.invariant-loop-number
invariant-loop-number l = first (without_use l.used.everything l.used.wholes l.used.fronts) l.strings ≡ first (without_use l.used.everything l.used.wholes l.used.fronts) (drop l.number l.strings)
