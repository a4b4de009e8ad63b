use Rattle.std.proofs.Common.{arith}
use Rattle.yr_rows.proofs.ByteLemmas.{node_is}
use Rattle.yr_rows.proofs.nodes.node_at.Goals as goal

pub returns : goal.returns
returns c = let row = node_is c.args.bytes.now c.args.n c.requires in grind (arith, row)
