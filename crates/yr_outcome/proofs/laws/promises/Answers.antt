use Rattle.std.specs.Prelude.{ℕ, List, Option, Some, None}
use Rattle.yr_outcome.specs.Fits.{Outside}
use Rattle.yr_outcome.specs.Clauses.{StoreFailed, OutFailed, WriteFailed, output_named}
use Rattle.yr_outcome.proofs.CallerLemmas.{fits_settled, fits_unread, fits_unwritten, fits_no_memory, fits_complete}
use Rattle.yr_outcome.proofs.laws.promises.Goals as goal

pub returns-clause-answer : goal.returns-clause-answer
returns-clause-answer c = λ setting words a old new fits told settled files e reading reads.
    fits_settled setting words files reading a old new (fits files e reading reads) told settled

pub returns-clause-read_fault : goal.returns-clause-read_fault
returns-clause-read_fault c = λ setting words a old new fits told is files e reading reads o near.
    fits_unread setting words files reading a old new (fits files e reading reads) told is o near

pub returns-clause-write_fault : goal.returns-clause-write_fault
returns-clause-write_fault c = λ setting words a old new fits told is files e reading reads.
    fits_unwritten setting words files reading a old new (fits files e reading reads) told is

pub returns-clause-no_memory : goal.returns-clause-no_memory
returns-clause-no_memory c = λ setting words a old new fits told is files e reading reads o near.
    fits_no_memory setting words files reading a old new (fits files e reading reads) told is o near

-- a failed write raised one of two counts
no_write : (output : Option (List ℕ)) (old new : Outside) → ¬ StoreFailed old new → ¬ OutFailed old new → WriteFailed output old new → ⊥
no_write None old new store out h = out h
no_write (Some name) old new store out h = store h

pub returns-clause-complete : goal.returns-clause-complete
returns-clause-complete c = λ setting words a old new fits read write files e reading reads can store out.
    fits_complete setting words files reading a old new (fits files e reading reads) can
    (λ is. store (read is)) (λ is. no_write (output_named words) old new store out (write is))
