use Rattle.std.proofs.Common.{◌≡◌, length, sym, ap, ◌∙◌}
use Rattle.yr_image.specs.Reading.{image_in}
use Rattle.yr_image.specs.Sections.{rows_of}
use Rattle.yr_machine.specs.Verified.{bytes_of, are_wellformed}
use Rattle.yr_machine.proofs.CallerLemmas.{has_sections}
use Rattle.yr_report.proofs.CallerLemmas.{rule_count, string_count}
use Rattle.speed_image.proofs.report.timing.fits.Goals as goal

pub returns-clause-rules : goal.returns-clause-rules
returns-clause-rules c h =
    let bytes = bytes_of c.args.image.now in
    let rows : c.rows.result ≡ length (image_in bytes).rules =
    c.rows.ensures ∙ ap (λ b. rows_of b 0) c.view-view.ensures.bytes ∙ sym (rule_count bytes (has_sections bytes (are_wellformed c.args.image.now))) in
    sym c.if-rows-rules.false ∙ rows

pub returns-clause-strings : goal.returns-clause-strings
returns-clause-strings c h =
    let bytes = bytes_of c.args.image.now in
    let rows : c.rows-2.result ≡ length (image_in bytes).strings =
    c.rows-2.ensures ∙ ap (λ b. rows_of b 3) c.view-view.ensures.bytes ∙ sym (string_count bytes (has_sections bytes (are_wellformed c.args.image.now))) in
    sym c.if-rows-strings.false ∙ rows
