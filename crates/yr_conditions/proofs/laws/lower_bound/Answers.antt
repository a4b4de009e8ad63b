use Rattle.yr_conditions.proofs.LowerLemmas.{sets-weigh}
use Rattle.yr_conditions.proofs.laws.lower_bound.Goals as goal

pub returns : goal.returns
returns c = λ readers around c n scopes loops e. sets-weigh readers around c n scopes loops e
