use Rattle.std.proofs.Common.{◌++◌, ap, ◌∙◌, arith}
use Rattle.std.proofs.lemmas.List.{take_all}
use Rattle.yr_rows.specs.Nodes.{nodes_of}
use Rattle.yr_rows.proofs.ByteLemmas.{node_count}
use Rattle.yr_draft.proofs.FillingLemmas.{pushed}
use Rattle.yr_draft.proofs.filling.add_nodes.Goals as goal

pub node_at-requires : goal.node_at-requires
node_at-requires c = omega (arith, node_count c.args.bytes.now)

pub loop-k-preserved : goal.loop-k-preserved
loop-k-preserved c =
    c.in_ok-push.ensures.items
    ∙ pushed c.args.into.now.items (nodes_of c.args.bytes.now) c.loop-k.into.items c.loop-k.k c.node_at.result c.node_at.ensures c.loop-k.invariant

pub returns : goal.returns
returns c =
    c.loop-k.invariant
    ∙ ap (λ l. c.args.into.now.items ++ l) (take_all c.loop-k.k (nodes_of c.args.bytes.now) (omega (arith, node_count c.args.bytes.now)))
