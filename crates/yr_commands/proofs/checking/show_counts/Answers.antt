use Rattle.std.proofs.Common.{sym, ap, ◌∙◌}
use Rattle.yr_rules.specs.Rules.{rules_of}
use Rattle.yr_outcome.specs.Answers.{check_line}
use Rattle.yr_outcome.specs.Examples.{nothing_found}
use Rattle.yr_outcome.specs.Outcome.{Free, shown}
use Rattle.yr_commands.proofs.checking.show_counts.Goals as goal

pub returns-in-Ok-clause-fits : goal.returns-in-Ok-clause-fits
returns-in-Ok-clause-fits g c = λ setting files told is trace.
    c.show.ensures.fits setting files told is trace (λ found. shown files (check_line (rules_of c.args.rules.now)) Free) nothing_found Free
    (ap (λ text. shown files text Free) (sym (c.deref.ensures.value ∙ c.in-Ok.ensures))) tt
