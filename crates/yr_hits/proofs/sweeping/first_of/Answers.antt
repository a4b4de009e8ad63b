use Rattle.yr_hits.proofs.OrderLemmas.{contains_at}
use Rattle.yr_hits.proofs.sweeping.first_of.Goals as goal

pub returns : goal.returns
returns c = contains_at c.args.hits.now 0 c.requires
