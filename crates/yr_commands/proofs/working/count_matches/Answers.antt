use Rattle.std.proofs.Common.{ap, ◌+◌, ◌∙◌, sym, arith, ap₂}
use Rattle.yr_commands.proofs.WorkLemmas.{sum-next}
use Rattle.yr_commands.proofs.working.count_matches.Goals as goal

pub loop-string-preserved : goal.loop-string-preserved
loop-string-preserved c = record {
  counted = ap₂ (λ n m. n + m) c.loop-string.invariant.counted (c.from-count.ensures ∙ c.count.ensures)
      ∙ sym (sum-next c.args.matches.now.lists c.loop-string.string (omega (arith, c.loop-string-test.true, c.requires)));
  few = omega (arith, c.loop-string.invariant.few, c.count.type_inv, c.from-count.ensures);
}
