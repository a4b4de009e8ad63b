use Rattle.std.proofs.Common.{◌≤◌, ◌<◌, None, sym, ap, ◌∙◌, arith, length, length-take, get_or-take, rules}
use Rattle.yr_automaton.specs.Atoms.{word}
use Rattle.yr_cert.specs.Tries.{edge_in}
use Rattle.yr_cert.proofs.SuffixesLemmas.{path_step}
use Rattle.yr_cert.proofs.spelling.find.Goals as goal

pub returns-in-None : goal.returns-in-None
returns-in-None c =
    let atom = c.args.atom.now in
    let long : 4 ≤ length atom.bytes = search rules in
    let lt : c.loop-at.at < length (word atom) = omega (arith, long, c.loop-at-test.true, atom.few, length-take atom.len atom.bytes) in
    let step = path_step (edge_in c.args.trie.now) (word atom) c.loop-at.at c.loop-at.node None lt
    (ap (edge_in c.args.trie.now c.loop-at.node) (get_or-take atom.len atom.bytes c.loop-at.at 0 c.loop-at-test.true) ∙ (sym c.edge.ensures.value ∙ c.in-None.is)) in
    sym (c.loop-at.invariant.same ∙ step)
