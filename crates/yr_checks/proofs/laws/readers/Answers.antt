use Rattle.yr_conditions.proofs.ReaderLemmas.{some_readers, one-answer}
use Rattle.yr_checks.proofs.laws.readers.Goals as goal

pub returns-clause-some : goal.returns-clause-some
returns-clause-some c = some_readers

pub returns-clause-one : goal.returns-clause-one
returns-clause-one c = one-answer
