use Rattle.std.proofs.Common.{◌≡◌, ◌+◌, ◌/◌, ◌++◌, sym, ap, ◌∙◌, arith}
use Rattle.std.specs.List.{flat_map, range_with_len}
use Rattle.yr_workload.specs.Workload.{after_draws, piece}
use Rattle.yr_workload.proofs.DrawLemmas.{flat_map_next}
use Rattle.yr_workload.proofs.making.put_file.Goals as goal

pub loop-p-preserved : goal.loop-p-preserved
loop-p-preserved c =
    let p = c.loop-p.p in
    let number = c.args.number in
    let more : p + 2 ≡ p + 1 + 1 = omega arith in (
      c.in_ok-after.ensures.added ∙ ap (λ l. l ++ piece number p) c.loop-p.invariant.0 ∙ sym (flat_map_next (piece number) p),
      c.in_ok-after.ensures.after ∙ ap (λ k. after_draws number (96 + k / 4)) more,
    )

pub returns : goal.returns
returns c =
    let all : c.loop-p.p ≡ c.args.size = omega (arith, c.loop-p-test.false, c.loop-p.auto.p-end) in
    c.loop-p.invariant.0 ∙ ap (λ n. flat_map (piece c.args.number) (range_with_len 0 n)) all
