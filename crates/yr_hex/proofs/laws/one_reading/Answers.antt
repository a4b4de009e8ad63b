use Rattle.std.proofs.Common.{refl}
use Rattle.yr_hex.proofs.UniqueLemmas.{items-one}
use Rattle.yr_hex.proofs.laws.one_reading.Goals as goal

pub returns : goal.returns
returns c = λ t a b f g. (items-one f g refl refl).0
