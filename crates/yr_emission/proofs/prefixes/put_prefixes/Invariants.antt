use Rattle.std.proofs.Common.{◌≡◌, List, ◌++◌, vec_len}
use Rattle.yr_syntax.specs.declared.operator.PrefixOp.{PrefixOp}
use Rattle.yr_emission.specs.Prefixed.{PutUnder}
use Rattle.yr_emission.proofs.prefixes.put_prefixes.Given as goal

abbrev pub invariant-loop-op : goal.invariant-loop-op
invariant-loop-op l =
    (done : List PrefixOp) × (l.fn.ops.items ≡ l.left.items ++ done) × PutUnder done l.initial.rows.items l.rows.items

abbrev pub decreases-loop-op : goal.decreases-loop-op
decreases-loop-op l = vec_len l.left
