use Rattle.std.proofs.Common.{[], sym, ◌∙◌, subst}
use Rattle.yr_image.specs.Reading.{image_in}
use Rattle.yr_image.specs.Views.{shown_bytes}
use Rattle.yr_machine.specs.ImageRun.{FitExternals}
use Rattle.yr_machine.proofs.CallerLemmas.{has_sections}
use Rattle.speed_engine.proofs.ImageLemmas.{no_externals, zero_from}
use Rattle.speed_engine.proofs.vm.timing.has_no_externals.Goals as goal

pub returns : goal.returns
returns c = λ e.
    let bytes = shown_bytes c.view.result in
    let none = no_externals bytes (has_sections bytes c.view.ensures.wellformed) (sym c.rows.ensures ∙ zero_from c.rows.result e) in
    subst (λ b. FitExternals (image_in b) []) c.view.ensures.bytes none
