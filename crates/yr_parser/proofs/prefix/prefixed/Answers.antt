use Rattle.std.proofs.Common.{◌++◌, ap, ◌∙◌}
use Rattle.std.specs.Option.{option_to_list}
use Rattle.yr_syntax.specs.Condition.{tree_of}
use Rattle.yr_parser.proofs.Steps.{one_written}
use Rattle.yr_parser.proofs.prefix.prefixed.Goals as goal

pub loop-op-preserved : goal.loop-op-preserved
loop-op-preserved c =
    one_written c.loop-op.left.items c.pop.new.self.items c.in-Some.op (tree_of c.loop-op.whole) _ _ (c.pop.ensures.items ∙ ap (λ r. c.pop.new.self.items ++ option_to_list r) c.in-Some.is)
    c.in_ok-whole.ensures c.loop-op.invariant
