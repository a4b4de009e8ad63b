use Rattle.yr_regex.proofs.AnswerLemmas.{one-reading}
use Rattle.yr_regex.proofs.laws.one_reading.Goals as goal

pub returns : goal.returns
returns c = one-reading
