use Rattle.std.proofs.Common.{sym}
use Rattle.yr_rows.specs.Moves.{move_row}
use Rattle.yr_rows.proofs.RowLemmas.{length-rows_in}
use Rattle.yr_rows.proofs.moves.count_moves.Goals as goal

pub returns : goal.returns
returns c = sym (length-rows_in 16 move_row c.args.moves.now)
