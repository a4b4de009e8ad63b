use Rattle.std.proofs.Common.{rules}
use Rattle.std.proofs.lemmas.Int.{wraps}
use Rattle.yr_values.proofs.number.negation.Goals as goal

pub returns-in-Some : goal.returns-in-Some
returns-in-Some c = search (rules, wraps)
