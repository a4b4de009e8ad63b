use Rattle.std.proofs.Common.{sym, ap, ◌∙◌}
use Rattle.yr_machine.specs.Roles.{numbers}
use Rattle.yr_verifier.proofs.EffectLemmas.{copies-numbers}
use Rattle.yr_verifier.proofs.effect.quantified.Goals as goal

pub returns : goal.returns
returns c = copies-numbers c.args.count _ ∙ ap (numbers c.args.count) (sym c.is_numbered.ensures)
