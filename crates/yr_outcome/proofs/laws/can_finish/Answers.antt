use Rattle.yr_outcome.proofs.FinishLemmas.{ending_done}
use Rattle.yr_outcome.proofs.laws.can_finish.Goals as goal

pub returns : goal.returns
returns c = ending_done
