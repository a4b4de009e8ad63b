use Rattle.std.proofs.Common.{arith}
use Rattle.yr_name_tables.proofs.FrontLemmas.{last_front}
use Rattle.yr_name_tables.proofs.front.has_front.Goals as goal

pub returns : goal.returns
returns c = last_front c.args.fronts.now c.args.name.now c.loop-size.size c.has-2.result c.loop-size.invariant (omega (arith, c.loop-size-test.false)) c.has-2.ensures
