use Rattle.std.proofs.Common.{sym, ◌∙◌}
use Rattle.yr_automaton.specs.Atoms.{word}
use Rattle.yr_cert.specs.Faults.{LinksRight}
use Rattle.yr_cert.specs.Tries.{nodes_in, edges_in, outputs_in}
use Rattle.yr_cert.proofs.SuffixesLemmas.{tells, right_from, right_to}
use Rattle.yr_cert.proofs.linking.links_right.Goals as goal

pub returns : goal.returns
returns c =
    let trie = c.args.trie.now in
    let readable = c.requires.readable in
    let atom = c.word_at-atom.result in
    let m = c.longest_suffix.result in
    tells m c.failure.result (LinksRight (nodes_in trie) (edges_in trie) c.args.n)
    (λ e. right_from (nodes_in trie) (edges_in trie) (outputs_in trie) readable.some readable.formed c.requires.one (word atom) c.args.n m c.word_at-atom.ensures c.longest_suffix.ensures (e ∙ c.failure.ensures.value))
    (λ right. right_to (nodes_in trie) (edges_in trie) (outputs_in trie) readable.some readable.formed c.requires.one (word atom) c.args.n m c.word_at-atom.ensures c.longest_suffix.ensures right ∙ sym c.failure.ensures.value)
