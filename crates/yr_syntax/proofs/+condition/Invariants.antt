use Rattle.std.proofs.Common.{◌≤◌}
use Rattle.yr_syntax.proofs.condition.Cond.TheLaws.{the_size}
use Rattle.yr_syntax.proofs.+condition.Given as goal

abbrev pub invariant-condition::Cond::drop-loop-self :
    goal.invariant-condition::Cond::drop-loop-self
invariant-condition::Cond::drop-loop-self l = the_size l.self ≤ the_size l.initial.self
