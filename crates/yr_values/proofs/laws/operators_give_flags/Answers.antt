use Rattle.yr_values.specs.Comparisons.{less_of, equal_of}
use Rattle.yr_values.proofs.KindLemmas.{on_texts-suits, contrary-suits, less-suits, equal-suits}
use Rattle.yr_values.proofs.laws.operators_give_flags.Goals as goal

pub returns-clause-orders : goal.returns-clause-orders
returns-clause-orders c v w = (less-suits v w, less-suits w v, contrary-suits (less_of w v), contrary-suits (less_of v w))

pub returns-clause-equalities : goal.returns-clause-equalities
returns-clause-equalities c v w = (equal-suits v w, contrary-suits (equal_of v w))

pub returns-clause-texts : goal.returns-clause-texts
returns-clause-texts c test v w = on_texts-suits test v w

pub returns-clause-contrary : goal.returns-clause-contrary
returns-clause-contrary c v = contrary-suits v
