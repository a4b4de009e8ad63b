use Rattle.std.proofs.Common.{◌≡◌, take}
use Rattle.yr_checking.proofs.sorting.copy_names.Given as goal

abbrev pub invariant-loop-number : goal.invariant-loop-number
invariant-loop-number l = l.all ≡ take l.number l.names
