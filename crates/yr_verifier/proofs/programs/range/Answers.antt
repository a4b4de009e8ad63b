use Rattle.std.proofs.Common.{ap, ◌∙◌, arith}
use Rattle.yr_rows.specs.Moves.{move_row, moves_in}
use Rattle.yr_rows.proofs.RowLemmas.{length-rows_in, moves_in-range}
use Rattle.yr_verifier.proofs.programs.range.Goals as goal

pub part-requires : goal.part-requires
part-requires c = omega (arith, c.requires, length-rows_in 16 move_row c.args.moves.now)

pub returns : goal.returns
returns c = ap moves_in c.part.ensures ∙ moves_in-range c.args.moves.now c.args.first c.args.count c.requires
