use Rattle.std.proofs.Common.{arith}
use Rattle.yr_rows.proofs.RowLemmas.{move_inside, move_read}
use Rattle.yr_rows.proofs.moves.MoveRow.at.Goals as goal

pub number_at-requires : goal.number_at-requires
number_at-requires c = omega (arith, move_inside c.args.moves.now c.args.m c.requires)

pub number_at-requires-2 : goal.number_at-requires-2
number_at-requires-2 c = omega (arith, move_inside c.args.moves.now c.args.m c.requires)

pub number_at-requires-3 : goal.number_at-requires-3
number_at-requires-3 c = omega (arith, move_inside c.args.moves.now c.args.m c.requires)

pub number_at-requires-4 : goal.number_at-requires-4
number_at-requires-4 c = omega (arith, move_inside c.args.moves.now c.args.m c.requires)

pub returns : goal.returns
returns c = let row = move_read c.args.moves.now c.args.m c.requires in cc
