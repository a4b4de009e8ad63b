use Rattle.std.proofs.Common.{arith}
use Rattle.yr_image.specs.Views.{image_of}
use Rattle.yr_verifier.proofs.WindowLemmas.{done_more, repeat_in, repeats_old, all_new}
use Rattle.yr_verifier.proofs.repeating.repeated_of_many.Goals as goal

pub returns-in-Repeat : goal.returns-in-Repeat
returns-in-Repeat c =
    let end = c.in-Repeat.ensures in
    repeat_in (image_of c.args.view.now) c.loop-from.from c.in-Repeat.k c.loop-from.bound c.args.end c.requires c.loop-from.invariant.done end.0 end.1 end.2

pub loop-from-preserved : goal.loop-from-preserved
loop-from-preserved c =
    let end = c.in-Before.ensures in
    record {
      done = done_more (image_of c.args.view.now) c.loop-from.from c.in-Before.to c.loop-from.bound c.number_or-bound.result c.args.end c.first_in.result c.loop-from.invariant.done end.3
          c.first_in.ensures c.number_or-bound.ensures;
      room = omega (arith, c.fill.auto.table, c.clear.auto.table, c.loop-from.invariant.room);
    }

pub returns-then-bound-end : goal.returns-then-bound-end
returns-then-bound-end c =
    let done = c.loop-from.invariant.done in (
      c.if-bound-end.true,
      repeats_old (image_of c.args.view.now) 0 c.loop-from.bound (omega (arith, c.if-bound-end.true, c.requires)) (done.repeats c.if-bound-end.true),
      all_new (image_of c.args.view.now) c.loop-from.from c.loop-from.bound c.args.end done c.loop-from-test.false,
    )

pub returns-else-bound-end : goal.returns-else-bound-end
returns-else-bound-end c = λ k lt.
    all_new (image_of c.args.view.now) c.loop-from.from c.loop-from.bound c.args.end c.loop-from.invariant.done c.loop-from-test.false k (omega (arith, lt, c.if-bound-end.false))
