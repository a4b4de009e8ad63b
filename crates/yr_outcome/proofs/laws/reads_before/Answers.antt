use Rattle.yr_outcome.proofs.CallerLemmas.{FitsAnswer-after_reads}
use Rattle.yr_outcome.proofs.laws.reads_before.Goals as goal

pub returns : goal.returns
returns c = FitsAnswer-after_reads
