use Rattle.std.proofs.Common.{refl}
use Rattle.std.specs.Int.{int_wrap}
use Rattle.yr_values.proofs.laws.shifts_at_their_ends.Goals as goal

pub returns-clause-top : goal.returns-clause-top
unfolding int_wrap
returns-clause-top c = refl
