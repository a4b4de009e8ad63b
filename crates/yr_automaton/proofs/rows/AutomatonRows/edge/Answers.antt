use Rattle.std.proofs.Common.{length}
use Rattle.yr_rows.specs.Nodes.{nodes_of, edges_of}
use Rattle.yr_automaton.proofs.RowLemmas.{target_within}
use Rattle.yr_automaton.proofs.rows.AutomatonRows.edge.Goals as goal

pub returns-clause-inside : goal.returns-clause-inside
returns-clause-inside c =
    let rows = c.args.self.now in
    let formed = c.requires.wellformed in
    target_within (length (nodes_of rows.nodes.now)) (edges_of rows.edges.now) c.node_at.result c.args.byte (λ k e here. (formed.each_edge k e here).1)
    (formed.each_node c.args.node c.node_at.result c.node_at.ensures).edges_inside c.target.result c.target.ensures
