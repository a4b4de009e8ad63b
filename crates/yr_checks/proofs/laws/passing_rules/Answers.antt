use Rattle.yr_checks.proofs.PassLemmas.{sound-rule, number-is, light-rules}
use Rattle.yr_checks.proofs.laws.passing_rules.Goals as goal

pub returns-clause-sound : goal.returns-clause-sound
returns-clause-sound c = sound-rule

pub returns-clause-numbered : goal.returns-clause-numbered
returns-clause-numbered c = number-is

pub returns-clause-light : goal.returns-clause-light
returns-clause-light c = light-rules
