use Rattle.std.proofs.Common.{◌≡◌, ◌∙◌, sym, map}
use Rattle.yr_syntax.specs.Condition.{tree_of}
use Rattle.yr_conditions.proofs.MeaningLemmas.{count-items, length-map'}
use Rattle.yr_conditions.proofs.path.count.Goals as goal

pub returns : goal.returns
returns c = sym (count-items (map tree_of c.args.conditions.now) ∙ length-map' tree_of c.args.conditions.now)
