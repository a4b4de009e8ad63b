use Rattle.std.proofs.Common.{bit_xor}
use Rattle.yr_lanes.proofs.LaneLemmas.{HasLanes-splat}
use Rattle.yr_lanes.proofs.lanes.under_key.Goals as goal

pub returns : goal.returns
returns c = HasLanes-splat bit_xor c.args.block c.args.key c.fits-block.0
