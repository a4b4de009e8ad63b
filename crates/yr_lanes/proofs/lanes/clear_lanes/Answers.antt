use Rattle.yr_lanes.proofs.LaneLemmas.{IsClear-none, IsClear-below, lowest_lit-le}
use Rattle.yr_lanes.proofs.lanes.clear_lanes.Goals as goal

pub returns-then-marks-eq0-clause-clear : goal.returns-then-marks-eq0-clause-clear
returns-then-marks-eq0-clause-clear c = IsClear-none c.args.lanes c.fits-lanes.0 c.if-marks-eq0.true

pub returns-clause-within : goal.returns-clause-within
returns-clause-within c = lowest_lit-le c.args.lanes c.fits-lanes.0 c.if-marks-eq0.false

pub returns-clause-clear : goal.returns-clause-clear
returns-clause-clear c = IsClear-below c.args.lanes c.fits-lanes.0 c.if-marks-eq0.false
