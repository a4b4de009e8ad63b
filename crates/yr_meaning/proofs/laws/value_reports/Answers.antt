use Rattle.std.proofs.Common.{refl}
use Rattle.std.specs.Fmt.{digits}
use Rattle.std.specs.Int.{int_wrap}
use Rattle.yr_meaning.proofs.laws.value_reports.Goals as goal

pub returns-clause-wrapping : goal.returns-clause-wrapping
unfolding int_wrap
returns-clause-wrapping c = refl

pub returns-clause-quantities : goal.returns-clause-quantities
unfolding digits int_wrap
returns-clause-quantities c = refl

pub returns-clause-nameless : goal.returns-clause-nameless
unfolding digits
returns-clause-nameless c = refl
