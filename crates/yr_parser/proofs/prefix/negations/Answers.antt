use Rattle.std.proofs.Common.{sym, ◌∙◌}
use Rattle.yr_parser.specs.Reading.{negates_at}
use Rattle.yr_parser.proofs.Steps.{no_negation, one_more, one_less, all_read}
use Rattle.yr_parser.proofs.prefix.negations.Goals as goal

pub loop-op-preserved : goal.loop-op-preserved
loop-op-preserved c = record {
  operators = one_more negates_at no_negation c.loop-op.ops.items c.push.new.self.items _ c.in-Some.op c.loop-op.tokens c.skip.new.self (sym c.negates.ensures ∙ c.in-Some.is) c.skip.ensures
      c.in_ok-push.ensures.items c.loop-op.invariant.operators;
  rest = one_less negates_at no_negation _ c.loop-op.tokens c.skip.new.self c.in-Some.op (sym c.negates.ensures ∙ c.in-Some.is) c.skip.ensures c.loop-op.invariant.rest;
}

pub returns-clause-operators : goal.returns-clause-operators
returns-clause-operators c = all_read negates_at no_negation c.loop-op.ops.items _ c.loop-op.tokens (sym c.negates.ensures ∙ c.in_default.is) c.loop-op.invariant.operators
