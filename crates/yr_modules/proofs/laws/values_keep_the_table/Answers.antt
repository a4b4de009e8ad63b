use Rattle.yr_modules.proofs.FitLemmas.{modules-fit}
use Rattle.yr_modules.proofs.laws.values_keep_the_table.Goals as goal

pub returns : goal.returns
returns c file = modules-fit file
