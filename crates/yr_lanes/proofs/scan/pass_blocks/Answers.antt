use Rattle.yr_lanes.proofs.PassLemmas.{Passes-then}
use Rattle.yr_lanes.proofs.scan.pass_blocks.Goals as goal

pub returns-clause-passed : goal.returns-clause-passed
returns-clause-passed g c =
    let passes = g.P.Probe.passes c.args.probe.now in
    let near = c.pass_block-near in
    let wide = c.pass_wide in
    Passes-then passes c.args.from near.result c.pass_lanes.result near.ensures.passed
    (Passes-then passes near.result wide.result c.pass_lanes.result wide.ensures.passed c.pass_lanes.ensures.passed)
