use Rattle.std.proofs.Common.{◌≡◌, ◌∙◌, length, subst, sym}
use Rattle.yr_image.specs.Reading.{image_in}
use Rattle.yr_image.specs.Views.{shown_bytes}
use Rattle.yr_machine.proofs.CallerLemmas.{has_sections}
use Rattle.yr_scan.proofs.ScanLemmas.{rule_rows}
use Rattle.yr_scan.proofs.scanning.no_truths.Goals as goal

pub returns : goal.returns
returns c =
    let view = c.view.result in
    let here = sym c.in_ok-truths.truths.ok.0 ∙ (c.in_ok-truths.ensures.len ∙ (c.rows-rules.ensures ∙ sym (rule_rows (shown_bytes view) (has_sections (shown_bytes view) c.view.ensures.wellformed)))) in
    subst (λ b. length c.in_ok-truths.truths.items ≡ length (image_in b).rules) c.view.ensures.bytes here
