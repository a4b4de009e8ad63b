use Rattle.std.proofs.Common.{ap, ◌∙◌}
use Rattle.yr_rows.specs.Nodes.{nodes_of, edges_of, outputs_of}
use Rattle.yr_image.specs.Views.{shown_bytes}
use Rattle.yr_cert.proofs.TrieLemmas.{whole_nodes, whole_edges, whole_outputs, readable}
use Rattle.yr_cert.proofs.trie.trie_of.Goals as goal

pub over-requires-clause-nodes : goal.over-requires-clause-nodes
over-requires-clause-nodes c = whole_nodes (shown_bytes c.args.view.now) c.requires c.automaton-rows.result.nodes.now c.automaton-rows.ensures.nodes

pub over-requires-clause-edges : goal.over-requires-clause-edges
over-requires-clause-edges c = whole_edges (shown_bytes c.args.view.now) c.requires c.automaton-rows.result.edges.now c.automaton-rows.ensures.edges

pub over-requires-clause-outputs : goal.over-requires-clause-outputs
over-requires-clause-outputs c = whole_outputs (shown_bytes c.args.view.now) c.requires c.automaton-rows.result.outputs.now c.automaton-rows.ensures.outputs

pub returns-clause-readable : goal.returns-clause-readable
returns-clause-readable c =
    let rows = c.automaton-rows.ensures in
    readable (shown_bytes c.args.view.now) c.requires (record { rows = c.over.result; nodes = c.count_nodes.result; splits = c.count_splits.result })
    (ap nodes_of (c.over.ensures.nodes ∙ rows.nodes)) (ap edges_of (c.over.ensures.edges ∙ rows.edges)) (ap outputs_of (c.over.ensures.outputs ∙ rows.outputs))
    c.count_nodes.ensures c.count_splits.ensures
