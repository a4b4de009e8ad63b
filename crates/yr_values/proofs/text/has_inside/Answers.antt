use Rattle.std.proofs.Common.{◌∙◌}
use Rattle.yr_values.proofs.TextLemmas.{has_inside-first}
use Rattle.yr_values.proofs.text.has_inside.Goals as goal

pub returns : goal.returns
returns c = c.is_some.ensures ∙ has_inside-first c.args.text.now c.args.part.now c.find.result c.find.ensures
