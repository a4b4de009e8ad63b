use Rattle.yr_search.proofs.SkipLemmas.{pass_front}
use Rattle.yr_search.proofs.laws.pairs_that_are_not_live_are_passed.Goals as goal

pub returns : goal.returns
returns c = λ bytes file p b k wellformed stands at next passed. pass_front bytes wellformed file p b k stands at next passed
