use Rattle.std.proofs.Common.{sym, ◌∙◌}
use Rattle.yr_preserves.proofs.laws.same_reports.Goals as goal

pub returns : goal.returns
returns c = λ modules one other rules p q file target_ok values kinds options target text text' count count' r s.
    (p.reports file target_ok values kinds options target text).0 (count, r) ∙ sym ((q.reports file target_ok values kinds options target text').0 (count', s))
