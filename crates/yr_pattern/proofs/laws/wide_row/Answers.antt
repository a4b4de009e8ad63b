use Rattle.std.proofs.Common.{refl}
use Rattle.yr_pattern.proofs.laws.wide_row.Goals as goal

pub returns : goal.returns
returns c = record { ends = (refl, refl); inside = (refl, refl) }
