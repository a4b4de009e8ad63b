use Rattle.std.proofs.Common.{sym, ◌∙◌}
use Rattle.yr_verifier.proofs.CountLemmas.{outputs_counted}
use Rattle.yr_verifier.proofs.counting.count_outputs.Goals as goal

pub returns : goal.returns
returns c = c.rows.ensures ∙ sym (outputs_counted c.args.view.now.bytes.now c.args.view.now.fits)
