use Rattle.std.proofs.lemmas.Bool.{eqb-true}
use Rattle.yr_lanes.proofs.LaneLemmas.{IsClear-none}
use Rattle.yr_lanes.proofs.lanes.is_clear.Goals as goal

pub returns : goal.returns
returns c none = IsClear-none c.args.lanes c.fits-lanes.0 (eqb-true _ _ none)
