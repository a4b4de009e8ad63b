use Rattle.std.proofs.Common.{rules, arith, take, ap}
use Rattle.std.proofs.lemmas.Grind.{common_steps}
use Rattle.yr_base.proofs.Streams.{Consumes-more, Consumes-ended}
use Rattle.yr_base.proofs.reading.read_whole.Goals as goal

pub loop-buffer-preserved : goal.loop-buffer-preserved
loop-buffer-preserved g c = record {
  within = grind (arith, common_steps);
  room = search rules;
  faults = search rules;
  given = Consumes-more _ _ _ c.loop-buffer.into.items _ (take c.in-Some.count c.read_some.new.buffer) c.loop-buffer.invariant.given c.in-Some.ensures.given (grind (arith, common_steps));
}

pub returns-then-count-eq0-clause-bytes : goal.returns-then-count-eq0-clause-bytes
returns-then-count-eq0-clause-bytes g c = (
  grind (arith, common_steps),
  Consumes-ended _ _ _ c.loop-buffer.into.items (take c.in-Some.count c.read_some.new.buffer) c.loop-buffer.invariant.given c.in-Some.ensures.given
      (ap (λ n. take n c.read_some.new.buffer) c.if-count-eq0.true) (c.in-Some.ensures.end c.if-count-eq0.true (grind (arith, common_steps))),
)
