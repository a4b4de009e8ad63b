use Rattle.yr_name_tables.proofs.RangeLemmas.{IsSwept}
use Rattle.yr_name_tables.proofs.ranges.swept.Given as goal

abbrev pub invariant-loop-range : goal.invariant-loop-range
invariant-loop-range l = IsSwept l.order l.ranges l.range-index l.end l.met.items
