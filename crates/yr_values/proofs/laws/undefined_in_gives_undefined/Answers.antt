use Rattle.std.proofs.Common.{refl}
use Rattle.yr_values.proofs.KindLemmas.{on_numbers-right, on_texts-right, less-right, equal-right}
use Rattle.yr_values.proofs.laws.undefined_in_gives_undefined.Goals as goal

pub returns-clause-numbers : goal.returns-clause-numbers
returns-clause-numbers c f v = (refl, on_numbers-right f v)

pub returns-clause-texts : goal.returns-clause-texts
returns-clause-texts c test v = (refl, on_texts-right test v)

pub returns-clause-orders : goal.returns-clause-orders
returns-clause-orders c v = (refl, less-right v)

pub returns-clause-equalities : goal.returns-clause-equalities
returns-clause-equalities c v = (refl, equal-right v)
