use Rattle.std.proofs.Common.{◌≡◌, Some, subst}
use Rattle.yr_preserves.specs.Preserves.{external_in, externals_in}
use Rattle.yr_image.specs.Views.{image_of, shown_bytes}
use Rattle.yr_outcome.specs.Externals.{external_named}
use Rattle.yr_words.specs.Shown.{given_shown}
use Rattle.yr_scan.proofs.FitLemmas.{fits_kind, misfits_kind}
use Rattle.yr_scan.proofs.misfits.misfit_of.Goals as goal

pub returns-then-is_of_kind : goal.returns-then-is_of_kind
returns-then-is_of_kind c =
    let image = image_of c.args.view.now in
    let there : Some (external_in image c.in-Some.row) ≡ external_named c.args.given.now.name.now (externals_in (shown_bytes c.args.view.now)) =
    subst (λ n. Some (external_in image c.in-Some.row) ≡ external_named n (externals_in (shown_bytes c.args.view.now))) c.as_bytes.ensures.value c.in-Some.ensures in
    fits_kind (given_shown c.args.given.now) (externals_in (shown_bytes c.args.view.now)) (external_in image c.in-Some.row) c.is_of_kind.result there (c.is_of_kind.ensures image) c.if-is_of_kind.true

pub returns-else-is_of_kind : goal.returns-else-is_of_kind
returns-else-is_of_kind c =
    let image = image_of c.args.view.now in
    let there : Some (external_in image c.in-Some.row) ≡ external_named c.args.given.now.name.now (externals_in (shown_bytes c.args.view.now)) =
    subst (λ n. Some (external_in image c.in-Some.row) ≡ external_named n (externals_in (shown_bytes c.args.view.now))) c.as_bytes.ensures.value c.in-Some.ensures in
    misfits_kind (given_shown c.args.given.now) (externals_in (shown_bytes c.args.view.now)) (external_in image c.in-Some.row) c.is_of_kind.result there (c.is_of_kind.ensures image) c.if-is_of_kind.false
