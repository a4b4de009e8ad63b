use Rattle.std.proofs.Common.{◌-◌, ◌≤◌}
use Rattle.yr_lanes.specs.Passing.{Passes}
use Rattle.yr_lanes.proofs.scan.pass_lanes.Given as goal

abbrev pub invariant-loop-at : goal.invariant-loop-at
invariant-loop-at g l = record {
  low : l.from ≤ l.at;
  high : l.at ≤ g.P.Probe.places l.probe;
  passed : Passes (g.P.Probe.passes l.probe) l.from l.at;
}

abbrev pub decreases-loop-at : goal.decreases-loop-at
decreases-loop-at g l = g.P.Probe.places l.probe - l.at
