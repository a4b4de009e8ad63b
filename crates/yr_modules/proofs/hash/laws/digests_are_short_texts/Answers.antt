use Rattle.yr_modules.specs.Hash.Digests.{range_in}
use Rattle.yr_modules.proofs.HashLengthLemmas.{text-short, value-suits}
use Rattle.yr_modules.proofs.hash.laws.digests_are_short_texts.Goals as goal

pub returns-clause-kind : goal.returns-clause-kind
returns-clause-kind c digest file from size = value-suits digest (range_in file from size)

pub returns-clause-short : goal.returns-clause-short
returns-clause-short c digest file from size text e = text-short digest (range_in file from size) text e
