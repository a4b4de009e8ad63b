use Rattle.std.proofs.Common.{arith}
use Rattle.yr_walks.proofs.KeptLemmas.{unmarks_all}
use Rattle.yr_walks.proofs.carried.EndList.clear.Goals as goal

pub invariant_of-self : goal.invariant_of-self
invariant_of-self c =
    let s = c.loop-k.self-inside in
    unmarks_all s.list.items s.len c.loop-k.k s.ends.items c.loop-k.invariant.0 (omega (arith, c.loop-k-test.false, c.loop-k.invariant.1))
