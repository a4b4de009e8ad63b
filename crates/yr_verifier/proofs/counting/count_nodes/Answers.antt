use Rattle.std.proofs.Common.{sym, ◌∙◌}
use Rattle.yr_verifier.proofs.CountLemmas.{nodes_counted}
use Rattle.yr_verifier.proofs.counting.count_nodes.Goals as goal

pub returns : goal.returns
returns c = c.rows.ensures ∙ sym (nodes_counted c.args.view.now.bytes.now c.args.view.now.fits)
