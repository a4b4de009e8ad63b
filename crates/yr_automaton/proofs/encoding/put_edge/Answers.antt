use Rattle.std.proofs.Common.{◌≡◌, ◌++◌, ap, ◌∙◌}
use Rattle.std.specs.Int.{to_le_bytes, w32}
use Rattle.yr_rows.specs.Nodes.{edges_of}
use Rattle.yr_automaton.proofs.EncodeLemmas.{with_edge, edge_added}
use Rattle.yr_automaton.proofs.encoding.put_edge.Goals as goal

pub returns-clause-row : goal.returns-clause-row
returns-clause-row c =
    let row = c.args.row.now in
    let all : c.put_number-2.new.bytes.items ≡ with_edge c.args.bytes.now.items row =
    c.in_ok-put_number-2.ensures.added ∙ ap (λ l. l ++ to_le_bytes w32 row.target) c.in_ok-put_number.ensures.added in
    ap edges_of all ∙ edge_added c.args.bytes.now.items row c.put_number.ensures.small c.put_number-2.ensures.small c.requires
