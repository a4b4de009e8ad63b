use Rattle.yr_modules.proofs.ListedRows.{rows-listed}
use Rattle.yr_modules.proofs.laws.rows_are_listed.Goals as goal

pub returns : goal.returns
returns c = rows-listed
