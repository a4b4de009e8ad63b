use Rattle.std.proofs.Common.{sym, ◌∙◌}
use Rattle.yr_parser.specs.Reading.{prefix_at}
use Rattle.yr_parser.proofs.Steps.{no_prefix, one_more, one_less, all_read}
use Rattle.yr_parser.proofs.prefix.prefixes.Goals as goal

pub loop-op-preserved : goal.loop-op-preserved
loop-op-preserved c = record {
  operators = one_more prefix_at no_prefix c.loop-op.ops.items c.push.new.self.items _ c.in-Some.op c.loop-op.tokens c.skip.new.self (sym c.prefix.ensures ∙ c.in-Some.is) c.skip.ensures
      c.in_ok-push.ensures.items c.loop-op.invariant.operators;
  rest = one_less prefix_at no_prefix _ c.loop-op.tokens c.skip.new.self c.in-Some.op (sym c.prefix.ensures ∙ c.in-Some.is) c.skip.ensures c.loop-op.invariant.rest;
}

pub returns-clause-operators : goal.returns-clause-operators
returns-clause-operators c = all_read prefix_at no_prefix c.loop-op.ops.items _ c.loop-op.tokens (sym c.prefix.ensures ∙ c.in_default.is) c.loop-op.invariant.operators
