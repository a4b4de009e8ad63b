use Rattle.yr_base.proofs.Streams.{kept-Appends}
use Rattle.yr_base.proofs.writing.write_some.Goals as goal

pub returns-in-Ok-clause-taken : goal.returns-in-Ok-clause-taken
returns-in-Ok-clause-taken g c = kept-Appends _ _ _ _ c.loop-try.invariant.kept c.in-Ok.ensures.bytes
