use Rattle.yr_rows.specs.Nodes.{edges_end, end_before}
use Rattle.yr_cert.specs.Tries.{AreParents, nodes_in}
use Rattle.yr_cert.proofs.reaching.parents_of.Given as goal

abbrev pub invariant-loop-source : goal.invariant-loop-source
invariant-loop-source l = AreParents l.trie (end_before edges_end (nodes_in l.trie) l.source) l.parents.items
