use Rattle.std.proofs.Common.{sym, take}
use Rattle.yr_rows.proofs.RowLemmas.{length-rows_in}
use Rattle.yr_rows.proofs.moves.count_sets.Goals as goal

pub returns : goal.returns
returns c = sym (length-rows_in 32 (take 32) c.args.sets.now)
