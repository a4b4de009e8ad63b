use Rattle.yr_checks.proofs.FitLemmas.{made-fits}
use Rattle.yr_checks.proofs.HeightLemmas.{made-low}
use Rattle.yr_checks.proofs.IdLemmas.{made-has}
use Rattle.yr_checks.proofs.laws.conditions_fit.Goals as goal

pub returns-clause-fits : goal.returns-clause-fits
returns-clause-fits c = made-fits

pub returns-clause-low : goal.returns-clause-low
returns-clause-low c = made-low

pub returns-clause-ids : goal.returns-clause-ids
returns-clause-ids c = made-has
