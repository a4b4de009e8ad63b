use Rattle.std.proofs.Common.{◌≡◌, ◌++◌, ◌∙◌}
use Rattle.yr_rows.specs.Nodes.{nodes_of, edges_of, outputs_of}
use Rattle.yr_automaton.specs.Atoms.{words_of}
use Rattle.yr_splits.proofs.WholeLemmas.{automaton_put}
use Rattle.yr_splits.proofs.automaton.put_automaton.Goals as goal

pub returns : goal.returns
returns c =
    let old = c.args.draft.now in
    let made = c.in_ok-automaton.automaton in
    let n = c.rows-rows.ensures.nodes in
    let e = c.rows-rows.ensures.edges in
    let o = c.rows-rows.ensures.outputs in
    let same : record old { nodes = old.nodes ++ nodes_of c.rows-rows.result.nodes.now; edges = old.edges ++ edges_of c.rows-rows.result.edges.now; outputs = old.outputs ++ outputs_of c.rows-rows.result.outputs.now }
    ≡ record old { nodes = old.nodes ++ made.nodes; edges = old.edges ++ made.edges; outputs = old.outputs ++ made.outputs } =
    λ i. record old { nodes = old.nodes ++ n i; edges = old.edges ++ e i; outputs = old.outputs ++ o i } in
    automaton_put old c.put_automaton.new.self (words_of c.args.atoms.now) made c.requires.no_nodes c.requires.no_edges c.requires.no_outputs
    (c.in_ok-put_automaton.ensures ∙ same) c.in_ok-automaton.ensures
