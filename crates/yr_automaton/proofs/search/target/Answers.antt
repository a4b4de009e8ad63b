use Rattle.std.proofs.Common.{sym, ◌∙◌}
use Rattle.yr_rows.specs.Nodes.{edges_of}
use Rattle.yr_automaton.proofs.SearchLemmas.{found, missing}
use Rattle.yr_automaton.proofs.search.target.Goals as goal

pub returns-then-edge-from : goal.returns-then-edge-from
returns-then-edge-from c =
    let p = c.last_up_to.ensures in
    sym (found (edges_of c.args.edges.now) c.args.row.now c.args.byte c.requires.rise c.last_up_to.result c.edge_at-edge.result p.from p.to c.edge_at-edge.ensures (c.if-edge-from.true ∙ c.from.ensures))

pub returns-else-edge-from : goal.returns-else-edge-from
returns-else-edge-from c =
    let p = c.last_up_to.ensures in
    sym (missing (edges_of c.args.edges.now) c.args.row.now c.args.byte c.requires.rise c.last_up_to.result c.edge_at-edge.result p.from p.to c.edge_at-edge.ensures
    (λ same. c.if-edge-from.false (same ∙ sym c.from.ensures)) p.before p.after)
