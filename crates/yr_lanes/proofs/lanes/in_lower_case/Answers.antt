use Rattle.yr_lanes.proofs.LaneLemmas.{HasLanes-lower}
use Rattle.yr_lanes.proofs.lanes.in_lower_case.Goals as goal

pub returns : goal.returns
returns c = HasLanes-lower c.args.block c.fits-block.0
