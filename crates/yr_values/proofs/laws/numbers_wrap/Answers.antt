use Rattle.std.proofs.Common.{refl}
use Rattle.std.specs.Int.{int_wrap}
use Rattle.yr_values.proofs.laws.numbers_wrap.Goals as goal

pub returns-clause-sum : goal.returns-clause-sum
unfolding int_wrap
returns-clause-sum c = refl

pub returns-clause-quotient : goal.returns-clause-quotient
unfolding int_wrap
returns-clause-quotient c = refl

pub returns-clause-negation : goal.returns-clause-negation
unfolding int_wrap
returns-clause-negation c = refl
