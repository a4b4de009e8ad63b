use Rattle.std.proofs.Common.{arith, subst}
use Rattle.yr_automaton.specs.Keys.{AllBytes}
use Rattle.yr_automaton.proofs.KeyLemmas.{bytes_from}
use Rattle.yr_automaton.proofs.prefix.add_prefixes.Goals as goal

pub returns-clause-bytes : goal.returns-clause-bytes
returns-clause-bytes c =
    let i = c.loop-byte.invariant in
    subst AllBytes i.items (bytes_from _ (λ k lt. i.read k (omega (arith, lt, c.loop-byte-test.false))))
