use Rattle.std.proofs.Common.{◌≡◌, ◌++◌, drop}
use Rattle.yr_name_tables.proofs.ranges.add_numbers.Given as goal

abbrev pub invariant-loop-number : goal.invariant-loop-number
invariant-loop-number l = l.met.items ++ drop l.number-index l.numbers ≡ l.initial.met.items ++ l.numbers
