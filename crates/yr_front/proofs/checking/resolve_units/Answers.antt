use Rattle.yr_front.proofs.IdLemmas.{ids-ok}
use Rattle.yr_front.proofs.checking.resolve_units.Goals as goal

pub returns-clause-ids : goal.returns-clause-ids
returns-clause-ids c = ids-ok c.resolve.result _ c.in-Ok.ensures.names c.rows_are_listed.ensures c.resolve.ensures.ids
