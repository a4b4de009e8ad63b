use Rattle.std.proofs.Common.{◌≡◌, vec_len}
use Rattle.yr_syntax.specs.Condition.{tree_of}
use Rattle.yr_parser.specs.Reading.{prefixed}
use Rattle.yr_parser.proofs.prefix.prefixed.Given as goal

-- the operators that are left stand before what is made
abbrev pub invariant-loop-op : goal.invariant-loop-op
invariant-loop-op l = prefixed l.left.items (tree_of l.whole) ≡ prefixed l.fn.ops.items (tree_of l.fn.operand)

abbrev pub decreases-loop-op : goal.decreases-loop-op
decreases-loop-op l = vec_len l.left
