use Rattle.std.proofs.Common.{◌≤◌, sym, ◌∙◌, arith, length, length-take, rules}
use Rattle.yr_automaton.specs.Atoms.{word}
use Rattle.yr_cert.specs.Tries.{edge_in}
use Rattle.yr_cert.proofs.SuffixesLemmas.{longest_from, longest_empty}
use Rattle.yr_cert.proofs.spelling.longest_suffix.Goals as goal

pub returns-in-Some : goal.returns-in-Some
returns-in-Some c =
    let atom = c.args.atom.now in
    let long : 4 ≤ length atom.bytes = search rules in
    longest_from (edge_in c.args.trie.now) (word atom) c.loop-from.from c.in-Some.node (omega (arith, c.loop-from.auto.from)) (omega (arith, long, c.loop-from-test.true, atom.few, length-take atom.len atom.bytes))
    (sym c.find.ensures ∙ c.in-Some.is) c.loop-from.invariant

pub returns : goal.returns
returns c =
    let atom = c.args.atom.now in
    let long : 4 ≤ length atom.bytes = search rules in
    longest_empty (edge_in c.args.trie.now) (word atom) (omega (arith, long, c.requires.some, length-take atom.len atom.bytes))
    (λ k pos lt. c.loop-from.invariant k pos (omega (arith, lt, c.loop-from-test.false, length-take atom.len atom.bytes)))
