use Rattle.std.proofs.Common.{◌≡◌, ap, ◌∙◌, arith}
use Rattle.yr_workload.specs.Workload.{after_draws}
use Rattle.yr_workload.proofs.draw.skip.Goals as goal

pub returns : goal.returns
returns c =
    let all : c.loop-draw._draw ≡ c.args.draws = omega (arith, c.loop-draw-test.false, c.loop-draw.auto._draw-end) in
    c.loop-draw.invariant ∙ ap (after_draws c.args.number) all
