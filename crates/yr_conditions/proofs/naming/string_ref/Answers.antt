use Rattle.std.proofs.Common.{◌<◌, length, arith, sym}
use Rattle.yr_conditions.proofs.LowLemmas.{current-low}
use Rattle.yr_conditions.proofs.naming.string_ref.Goals as goal

pub overflow_cast-result : goal.overflow_cast-result
overflow_cast-result c =
    let below : c.in-Some.number < length c.args.scopes.now = current-low c.args.scopes.now c.in-Some.number (sym c.in-Some.ensures) in omega (arith, below)
