use Rattle.std.proofs.Common.{◌≤◌}
use Rattle.yr_rules.proofs.node.Node.TheLaws.{the_size}
use Rattle.yr_rules.proofs.+node.Given as goal

abbrev pub invariant-node::Node::drop-loop-self :
    goal.invariant-node::Node::drop-loop-self
invariant-node::Node::drop-loop-self l = the_size l.self ≤ the_size l.initial.self
