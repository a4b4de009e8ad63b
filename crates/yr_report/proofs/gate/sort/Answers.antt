use Rattle.std.proofs.Common.{sym}
use Rattle.std.proofs.lemmas.List.Sorted.{list_any-IsPermutation}
use Rattle.yr_report.specs.Scenes.{is_text}
use Rattle.yr_report.proofs.gate.sort.Goals as goal

pub returns-clause-same : goal.returns-clause-same
returns-clause-same c name = sym (list_any-IsPermutation (is_text name) c.args.names.now _ c.sort_unstable.ensures.permutation)
