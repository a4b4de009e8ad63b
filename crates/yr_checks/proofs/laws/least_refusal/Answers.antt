use Rattle.yr_checks.proofs.FirstLemmas.{resolved-err, resolved-ok}
use Rattle.yr_checks.proofs.laws.least_refusal.Goals as goal

pub returns-clause-refused : goal.returns-clause-refused
returns-clause-refused c = resolved-err

pub returns-clause-passed : goal.returns-clause-passed
returns-clause-passed c = resolved-ok
