use Rattle.std.proofs.Common.{◌≡◌, true, not, Some, sym, ap, ◌∙◌}
use Rattle.yr_image.specs.declared.rows.StringRow.{StringRow}
use Rattle.yr_machine.specs.Listing.{has_flag}
use Rattle.yr_report.specs.Adding.{waiting}
use Rattle.yr_report.proofs.AddLemmas.{added-unasked}
use Rattle.yr_report.proofs.string.put_string.Goals as goal

pub returns-then-has_flag-clause-added : goal.returns-then-has_flag-clause-added
returns-then-has_flag-clause-added g c row e =
    let same : Some c.string-row.result ≡ Some row = sym c.string-row.ensures ∙ e in
    let one : c.string-row.result ≡ row = cc in
    let hidden : has_flag 1 row.flags ≡ true = ap (λ (r : StringRow). has_flag 1 r.flags) (sym one) ∙ sym c.has_flag.ensures ∙ c.if-has_flag.true in
    added-unasked (g.O.Sink.written c.args.out.now) (waiting c.args.line.now) _ (not (has_flag 1 row.flags)) (ap not hidden)
