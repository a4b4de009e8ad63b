use Rattle.std.proofs.Common.{bit_xor}
use Rattle.yr_lanes.proofs.LaneLemmas.{HasLanes-zip2}
use Rattle.yr_lanes.proofs.lanes.difference.Goals as goal

pub returns : goal.returns
returns c = HasLanes-zip2 bit_xor c.args.a c.args.b c.fits-a.0 c.fits-b.0
