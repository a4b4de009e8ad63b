use Rattle.std.proofs.Common.{sym, ◌∙◌}
use Rattle.yr_verifier.proofs.CountLemmas.{strings_counted}
use Rattle.yr_verifier.proofs.counting.count_strings.Goals as goal

pub returns : goal.returns
returns c = c.rows.ensures ∙ sym (strings_counted c.args.view.now.bytes.now c.args.view.now.fits)
