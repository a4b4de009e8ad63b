use Rattle.std.proofs.Common.{map, sym, subst}
use Rattle.yr_base.specs.Gives.{Gives}
use Rattle.yr_conditions.specs.Readers.{Readers}
use Rattle.yr_conditions.specs.Fixed.{the_readers}
use Rattle.yr_rules.specs.Rules.{rules_of}
use Rattle.yr_checks.specs.Refusals.{resolved}
use Rattle.yr_checks.specs.Resolving.{given_by, refusal_in}
use Rattle.yr_checks.specs.Sources.{unit_of}
use Rattle.yr_conditions.proofs.FixedLemmas.{one-readers}
use Rattle.yr_checking.proofs.FinishLemmas.{ids-in}
use Rattle.yr_checking.proofs.resolving.resolve.Goals as goal

pub returns-clause-rules : goal.returns-clause-rules
returns-clause-rules c readers reads =
    subst (λ (r : Readers). Gives rules_of refusal_in c.resolve_all.result (resolved (given_by r c.args.names.now c.args.externals.now) (map unit_of c.args.units.now)))
    (sym (one-readers readers reads)) c.resolve_all.ensures

pub returns-clause-ids : goal.returns-clause-ids
returns-clause-ids c =
    ids-in (given_by the_readers c.args.names.now c.args.externals.now) (map unit_of c.args.units.now) c.resolve_all.result c.requires.units c.resolve_all.ensures
