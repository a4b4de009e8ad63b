use Rattle.std.proofs.Common.{refl}
use Rattle.std.specs.Fmt.{digits}
use Rattle.yr_outcome.proofs.laws.texts.Goals as goal

pub returns-clause-duplicate : goal.returns-clause-duplicate
unfolding digits
returns-clause-duplicate c = refl

pub returns-clause-jump : goal.returns-clause-jump
unfolding digits
returns-clause-jump c = refl

pub returns-clause-cycle : goal.returns-clause-cycle
unfolding digits
returns-clause-cycle c = refl

pub returns-clause-unclosed : goal.returns-clause-unclosed
unfolding digits
returns-clause-unclosed c = refl

pub returns-clause-code : goal.returns-clause-code
unfolding digits
returns-clause-code c = refl

pub returns-clause-section : goal.returns-clause-section
unfolding digits
returns-clause-section c = refl
