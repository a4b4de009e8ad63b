use Rattle.std.proofs.Common.{arith}
use Rattle.yr_automaton.proofs.BuildLemmas.{depth_zero, depth_more}
use Rattle.yr_automaton.proofs.key.+depth_of.Goals as goal

pub returns-then-key-eq0-clause-is : goal.returns-then-key-eq0-clause-is
returns-then-key-eq0-clause-is t c r bytes e = depth_zero r (omega (arith, e))

pub returns-else-key-eq0-clause-is : goal.returns-else-key-eq0-clause-is
returns-else-key-eq0-clause-is t c = depth_more c.args.key c.depth_of.result (omega arith) c.depth_of.ensures.is
