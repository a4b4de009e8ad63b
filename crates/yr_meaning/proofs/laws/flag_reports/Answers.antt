use Rattle.std.proofs.Common.{refl}
use Rattle.std.specs.Fmt.{digits}
use Rattle.yr_meaning.proofs.laws.flag_reports.Goals as goal

pub returns-clause-none_negated : goal.returns-clause-none_negated
unfolding digits
returns-clause-none_negated c = refl
