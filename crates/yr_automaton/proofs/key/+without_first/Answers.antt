use Rattle.std.proofs.Common.{arith}
use Rattle.yr_automaton.proofs.BuildLemmas.{first_none, first_more}
use Rattle.yr_automaton.proofs.key.+without_first.Goals as goal

pub returns-then-key-le256-clause-is : goal.returns-then-key-le256-clause-is
returns-then-key-le256-clause-is t c = first_none c.args.key (omega arith)

pub returns-else-key-le256-clause-is : goal.returns-else-key-le256-clause-is
returns-else-key-le256-clause-is t c = first_more c.args.key c.without_first.result (omega arith) c.without_first.ensures.is
