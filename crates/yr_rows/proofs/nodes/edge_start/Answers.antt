use Rattle.std.proofs.Common.{arith}
use Rattle.yr_rows.proofs.ByteLemmas.{edge_room}
use Rattle.yr_rows.proofs.nodes.edge_start.Goals as goal

pub overflow_mul-result : goal.overflow_mul-result
overflow_mul-result c = omega (arith, edge_room c.args.bytes.now c.args.k c.requires)

pub returns-clause-room : goal.returns-clause-room
returns-clause-room c = omega (arith, edge_room c.args.bytes.now c.args.k c.requires)
