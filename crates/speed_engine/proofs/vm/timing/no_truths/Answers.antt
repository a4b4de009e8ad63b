use Rattle.std.proofs.Common.{◌≡◌, List, ℕ, length, subst, arith}
use Rattle.yr_image.specs.Reading.{image_in}
use Rattle.yr_image.specs.Views.{shown_bytes}
use Rattle.yr_machine.proofs.CallerLemmas.{has_sections}
use Rattle.speed_engine.proofs.ImageLemmas.{rule_rows}
use Rattle.speed_engine.proofs.vm.timing.no_truths.Goals as goal

pub returns : goal.returns
returns c =
    let bytes = shown_bytes c.view.result in
    let rows = rule_rows bytes (has_sections bytes c.view.ensures.wellformed) in
    let here : length c.in_ok-truths.truths.items ≡ length (image_in bytes).rules = omega (arith, rows, c.rows-rules.ensures, c.in_ok-truths.ensures.len) in
    subst (λ (b : List ℕ). length c.in_ok-truths.truths.items ≡ length (image_in b).rules) c.view.ensures.bytes here
