use Rattle.yr_lanes.proofs.PassLemmas.{Passes-clear}
use Rattle.yr_lanes.proofs.scan.pass_block.Goals as goal

pub returns-clause-passed : goal.returns-clause-passed
returns-clause-passed g c =
    let clear = c.clear_lanes in
    Passes-clear (g.P.Probe.passes c.args.probe.now) c.args.from clear.result c.lanes.result c.lanes.ensures clear.ensures.within clear.ensures.clear
