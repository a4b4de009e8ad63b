use Rattle.yr_parser.proofs.WholeLemmas.{Gives-found, Gives-none}
use Rattle.yr_parser.proofs.parsing.next.Goals as goal

pub returns-clause-found : goal.returns-clause-found
returns-clause-found c = Gives-found _ _ _ _ c.read.ensures

pub returns-clause-none : goal.returns-clause-none
returns-clause-none c = Gives-none _ _ _ _ c.read.ensures
