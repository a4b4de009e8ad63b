use Rattle.yr_rows.specs.Nodes.{outputs_end, end_before}
use Rattle.yr_cert.specs.Tries.{AreHomes, nodes_in}
use Rattle.yr_cert.proofs.housing.homes_of.Given as goal

abbrev pub invariant-loop-node : goal.invariant-loop-node
invariant-loop-node l = AreHomes l.trie (end_before outputs_end (nodes_in l.trie) l.node) l.homes.items
