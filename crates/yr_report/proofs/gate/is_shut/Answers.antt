use Rattle.std.proofs.Common.{◌∙◌}
use Rattle.yr_report.proofs.GateLemmas.{found}
use Rattle.yr_report.proofs.gate.is_shut.Goals as goal

pub returns : goal.returns
returns c = c.is_ok.ensures.value ∙ found c.args.names.now c.args.name.now c.binary_search.result c.binary_search.ensures.bound c.binary_search.ensures.position c.requires.sorted
