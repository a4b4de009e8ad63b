use Rattle.std.proofs.Common.{arith}
use Rattle.yr_rows.proofs.ByteLemmas.{node_room}
use Rattle.yr_rows.proofs.nodes.node_start.Goals as goal

pub overflow_mul-result : goal.overflow_mul-result
overflow_mul-result c = omega (arith, node_room c.args.bytes.now c.args.n c.requires)

pub returns-clause-room : goal.returns-clause-room
returns-clause-room c = omega (arith, node_room c.args.bytes.now c.args.n c.requires)
