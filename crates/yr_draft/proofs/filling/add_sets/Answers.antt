use Rattle.std.proofs.Common.{◌∙◌}
use Rattle.yr_rows.specs.Moves.{sets_in}
use Rattle.yr_draft.proofs.FillingLemmas.{pushed}
use Rattle.yr_draft.proofs.filling.add_sets.Goals as goal

pub loop-k-preserved : goal.loop-k-preserved
loop-k-preserved c =
    c.in_ok-push.ensures.items
    ∙ pushed c.args.into.now.items (sets_in c.args.sets.now) c.loop-k.into.items c.loop-k.k c.set_at.result c.set_at.ensures c.loop-k.invariant
