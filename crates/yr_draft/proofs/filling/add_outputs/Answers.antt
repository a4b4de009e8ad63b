use Rattle.std.proofs.Common.{◌++◌, ap, ◌∙◌, arith}
use Rattle.std.proofs.lemmas.List.{take_all}
use Rattle.yr_rows.specs.Nodes.{outputs_of}
use Rattle.yr_rows.proofs.ByteLemmas.{output_count}
use Rattle.yr_draft.proofs.FillingLemmas.{pushed}
use Rattle.yr_draft.proofs.filling.add_outputs.Goals as goal

pub output_at-requires : goal.output_at-requires
output_at-requires c = omega (arith, output_count c.args.bytes.now)

pub loop-k-preserved : goal.loop-k-preserved
loop-k-preserved c =
    c.in_ok-push.ensures.items
    ∙ pushed c.args.into.now.items (outputs_of c.args.bytes.now) c.loop-k.into.items c.loop-k.k c.output_at.result c.output_at.ensures c.loop-k.invariant

pub returns : goal.returns
returns c =
    c.loop-k.invariant
    ∙ ap (λ l. c.args.into.now.items ++ l) (take_all c.loop-k.k (outputs_of c.args.bytes.now) (omega (arith, output_count c.args.bytes.now)))
