use Rattle.std.proofs.Common.{arith}
use Rattle.yr_rows.proofs.ByteLemmas.{edge_is}
use Rattle.yr_rows.proofs.nodes.edge_at.Goals as goal

pub returns : goal.returns
returns c = let row = edge_is c.args.bytes.now c.args.k c.requires in grind (arith, row)
