use Rattle.std.proofs.Common.{◌∙◌}
use Rattle.yr_values.proofs.TextLemmas.{begins-in_either}
use Rattle.yr_values.proofs.text.begins_in_either_case.Goals as goal

pub returns-then-part-text : goal.returns-then-part-text
returns-then-part-text c = c.equals_in_either_case.ensures ∙ begins-in_either c.args.text.now c.args.part.now
