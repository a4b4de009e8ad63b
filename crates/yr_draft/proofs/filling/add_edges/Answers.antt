use Rattle.std.proofs.Common.{◌++◌, ap, ◌∙◌, arith}
use Rattle.std.proofs.lemmas.List.{take_all}
use Rattle.yr_rows.specs.Nodes.{edges_of}
use Rattle.yr_rows.proofs.ByteLemmas.{edge_count}
use Rattle.yr_draft.proofs.FillingLemmas.{pushed}
use Rattle.yr_draft.proofs.filling.add_edges.Goals as goal

pub edge_at-requires : goal.edge_at-requires
edge_at-requires c = omega (arith, edge_count c.args.bytes.now)

pub loop-k-preserved : goal.loop-k-preserved
loop-k-preserved c =
    c.in_ok-push.ensures.items
    ∙ pushed c.args.into.now.items (edges_of c.args.bytes.now) c.loop-k.into.items c.loop-k.k c.edge_at.result c.edge_at.ensures c.loop-k.invariant

pub returns : goal.returns
returns c =
    c.loop-k.invariant
    ∙ ap (λ l. c.args.into.now.items ++ l) (take_all c.loop-k.k (edges_of c.args.bytes.now) (omega (arith, edge_count c.args.bytes.now)))
