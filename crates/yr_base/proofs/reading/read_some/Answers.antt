use Rattle.yr_base.proofs.Streams.{kept-Consumes}
use Rattle.yr_base.proofs.reading.read_some.Goals as goal

pub returns-in-Ok-clause-given : goal.returns-in-Ok-clause-given
returns-in-Ok-clause-given g c = kept-Consumes _ _ _ _ c.loop-try.invariant.kept c.in-Ok.ensures.bytes.0
