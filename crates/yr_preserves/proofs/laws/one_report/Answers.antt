use Rattle.std.proofs.Common.{◌≡◌, ℕ, List, Bool, sym, ap, ap₂, ◌∙◌}
use Rattle.yr_values.specs.Values.{Value}
use Rattle.yr_answer.specs.MatchList.{Match}
use Rattle.yr_image.specs.Reading.{image_in}
use Rattle.yr_machine.specs.Hits.{hit_count}
use Rattle.yr_machine.specs.Listing.{image_report}
use Rattle.yr_machine.proofs.OneScan.{one_run}
use Rattle.yr_preserves.proofs.laws.one_report.Goals as goal

pub returns : goal.returns
returns c = λ modules bytes file values options target text text' count count' p q.
    let one = p.scan in
    let other = q.scan in
    let same = one_run one.context other.context (one.image ∙ sym other.image) (one.file_is ∙ sym other.file_is)
    (one.externals ∙ sym other.externals) (one.fields ∙ sym other.fields) (one.calls ∙ sym other.calls)
    one.hits other.hits one.truths other.truths one.run other.run in
    let report = λ (truths : List Bool) (lists : List (List Match)). image_report (image_in bytes) truths lists options target in
    (p.report ∙ ap₂ report same.1 same.2 ∙ sym q.report, p.hits ∙ ap hit_count same.0 ∙ sym q.hits)
