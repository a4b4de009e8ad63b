use Rattle.std.proofs.Common.{◌+◌, arith}
use Rattle.yr_lanes.proofs.PassLemmas.{IsClear-either, Passes-clear, Passes-four}
use Rattle.yr_lanes.proofs.scan.is_passed.Goals as goal

-- All of the joined vector is clear, so each of the four is.
pub returns : goal.returns
returns g c clear =
    let passes = g.P.Probe.passes c.args.probe.now in
    let at = c.args.at in
    let halves = IsClear-either c.either-front.result c.either-back.result c.either.ensures (c.is_clear.ensures clear) in
    let front = IsClear-either c.lanes.result c.lanes-2.result c.either-front.ensures halves.0 in
    let back = IsClear-either c.lanes-3.result c.lanes-4.result c.either-back.ensures halves.1 in
    Passes-four passes at
    (Passes-clear passes at 16 c.lanes.result c.lanes.ensures (omega arith) front.0)
    (Passes-clear passes (at + 16) 16 c.lanes-2.result c.lanes-2.ensures (omega arith) front.1)
    (Passes-clear passes (at + 32) 16 c.lanes-3.result c.lanes-3.ensures (omega arith) back.0)
    (Passes-clear passes (at + 48) 16 c.lanes-4.result c.lanes-4.ensures (omega arith) back.1)
