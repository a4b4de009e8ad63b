use Rattle.std.proofs.Common.{◌≡◌, ◌+◌, cond, arith}
use Rattle.yr_image.specs.Views.{shown_bytes}
use Rattle.yr_report.proofs.RowLemmas.{few-rules}
use Rattle.yr_report.proofs.JudgedLemmas.{count_from, count-first, count-next, count-none}
use Rattle.yr_report.proofs.counting.count_reported.Goals as goal

pub loop-k-init : goal.loop-k-init
loop-k-init c =
    let first = count-first c.args.scene.now in record {
      few = omega arith;
      counted = omega (arith, first);
    }

pub overflow_cast-k : goal.overflow_cast-k
overflow_cast-k c = omega (arith, few-rules (shown_bytes c.args.scene.now.view) c.requires.good.wellformed, c.requires.good.results)

pub loop-k-preserved : goal.loop-k-preserved
loop-k-preserved c =
    let scene = c.args.scene.now in
    let l = c.loop-k in
    let next : count_from scene l.k ≡ cond c.is_reported-reported.result 1 0 + count_from scene (l.k + 1) =
    count-next scene l.k c.rule-rule.result _ c.is_reported-reported.result c.loop-k-test.true c.rule-rule.ensures c.is_reported-reported.ensures in record {
      few = omega (arith, l.invariant.few, c.plus-count.ensures.within);
      counted = omega (arith, l.invariant.counted, next, c.plus-count.ensures.value);
    }

pub returns : goal.returns
returns c =
    let l = c.loop-k in
    let none : count_from c.args.scene.now l.k ≡ 0 = count-none c.args.scene.now l.k c.loop-k-test.false in
    omega (arith, l.invariant.counted, none)
