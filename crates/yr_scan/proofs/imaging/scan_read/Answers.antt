use Rattle.std.proofs.Common.{◌≡◌, [], Some, None, map, refl, ap, sym, subst}
use Rattle.yr_preserves.specs.Preserves.{externals_in}
use Rattle.yr_machine.specs.Wellformed.{IsWellformed}
use Rattle.yr_outcome.specs.declared.status.Status.TheVariants as status
use Rattle.yr_outcome.specs.Externals.{first_misfit}
use Rattle.yr_outcome.specs.Fits.{seen}
use Rattle.yr_outcome.specs.Outcome.{with_externals, with_verified}
use Rattle.yr_outcome.specs.Steps.{FitsAnswer}
use Rattle.yr_outcome.specs.Texts.{image_text}
use Rattle.yr_outcome.proofs.CallerLemmas.{refuses}
use Rattle.yr_words.specs.Shown.{flags_shown, given_shown}
use Rattle.yr_scan.proofs.ReportLemmas.{reads_none, verified_none, verified_some}
use Rattle.yr_scan.proofs.imaging.scan_read.Goals as goal

pub returns-in-Ok-clause-fits : goal.returns-in-Ok-clause-fits
returns-in-Ok-clause-fits g c = λ setting same reading is files there.
    let bytes = c.args.bytes.now in
    let passes : IsWellformed bytes = subst IsWellformed c.in-Ok.ensures.image c.in-Ok.image.wellformed in
    let none : reading.verified bytes ≡ None = verified_none bytes (reading.verified bytes) (is.verifies bytes) passes in
    let old = seen (g.F.Store.files c.args.store.now) (g.F.Store.trace c.args.store.now) (g.O.Sink.written c.args.out.now) in
    let new = seen (g.F.Store.files c.scan_verified.new.store) (g.F.Store.trace c.scan_verified.new.store) (g.O.Sink.written c.scan_verified.new.out) in
    let flags = flags_shown c.args.flags in
    let givens = map given_shown c.args.givens.now in
    subst (λ o. FitsAnswer setting (λ found. with_verified setting reading found files flags c.args.name.now c.args.target.now bytes givens o) c.scan_verified.result old new) (sym none)
    (subst (λ b. FitsAnswer setting (λ found. with_externals setting reading found files flags c.args.target.now b givens (first_misfit (externals_in b) givens)) c.scan_verified.result old new) c.in-Ok.ensures.image
    (c.scan_verified.ensures.fits setting same reading files there))

pub returns-in-Err-clause-fits : goal.returns-in-Err-clause-fits
returns-in-Err-clause-fits g c = λ setting same reading is files there.
    let bytes = c.args.bytes.now in
    let now = seen (g.F.Store.files c.args.store.now) (g.F.Store.trace c.args.store.now) (g.O.Sink.written c.args.out.now) in
    let some : reading.verified bytes ≡ Some c.in-Err.fault = verified_some bytes (reading.verified bytes) c.in-Err.fault (is.verifies bytes) c.in-Err.ensures.fault in
    refuses setting files [] (λ found. with_verified setting reading found files (flags_shown c.args.flags) c.args.name.now c.args.target.now bytes (map given_shown c.args.givens.now) (reading.verified bytes))
    status.Image (image_text c.args.name.now c.in-Err.fault) c.refuse_image.result now now tt c.refuse_image.ensures there (reads_none now)
    (λ found. ap (with_verified setting reading found files (flags_shown c.args.flags) c.args.name.now c.args.target.now bytes (map given_shown c.args.givens.now)) some)
