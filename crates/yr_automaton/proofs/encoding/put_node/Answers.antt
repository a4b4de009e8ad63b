use Rattle.std.proofs.Common.{◌≡◌, ◌++◌, ap, ◌∙◌}
use Rattle.std.specs.Int.{to_le_bytes, w32}
use Rattle.yr_rows.specs.Nodes.{nodes_of}
use Rattle.yr_automaton.proofs.EncodeLemmas.{with_node, node_added}
use Rattle.yr_automaton.proofs.encoding.put_node.Goals as goal

pub returns-clause-row : goal.returns-clause-row
returns-clause-row c =
    let row = c.args.row.now in
    let all : c.put_number-6.new.bytes.items ≡ with_node c.args.bytes.now.items row =
    c.in_ok-put_number-6.ensures.added
    ∙ ap (λ l. l ++ to_le_bytes w32 row.outputs) (c.in_ok-put_number-5.ensures.added
    ∙ ap (λ l. l ++ to_le_bytes w32 row.first_output) (c.in_ok-put_number-4.ensures.added
    ∙ ap (λ l. l ++ to_le_bytes w32 row.depth) (c.in_ok-put_number-3.ensures.added
    ∙ ap (λ l. l ++ to_le_bytes w32 row.failure) (c.in_ok-put_number-2.ensures.added
    ∙ ap (λ l. l ++ to_le_bytes w32 row.edges) c.in_ok-put_number.ensures.added)))) in
    ap nodes_of all ∙ node_added c.args.bytes.now.items row (record {
      first_edge = c.put_number.ensures.small;
      edges = c.put_number-2.ensures.small;
      failure = c.put_number-3.ensures.small;
      depth = c.put_number-4.ensures.small;
      first_output = c.put_number-5.ensures.small;
      outputs = c.put_number-6.ensures.small;
    }) c.requires
