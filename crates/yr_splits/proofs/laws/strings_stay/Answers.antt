use Rattle.yr_splits.proofs.WholeLemmas.{stands, stays}
use Rattle.yr_splits.proofs.laws.strings_stay.Goals as goal

pub returns : goal.returns
returns c = record {
  has = λ old new later strings puts grows keeps. stays new later puts.placed strings grows keeps puts.has puts.automaton;
  stands = stands;
}
