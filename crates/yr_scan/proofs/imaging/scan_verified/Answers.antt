use Rattle.std.proofs.Common.{◌≡◌, [], Some, None, map, refl, ap, sym, subst}
use Rattle.yr_preserves.specs.Preserves.{externals_in}
use Rattle.yr_outcome.specs.declared.status.Status.TheVariants as status
use Rattle.yr_outcome.specs.Externals.{first_misfit}
use Rattle.yr_outcome.specs.Fits.{seen}
use Rattle.yr_outcome.specs.Outcome.{with_externals}
use Rattle.yr_outcome.specs.Steps.{FitsAnswer}
use Rattle.yr_outcome.specs.Texts.{external_text}
use Rattle.yr_outcome.proofs.CallerLemmas.{refuses}
use Rattle.yr_machine.specs.Verified.{bytes_of}
use Rattle.yr_words.specs.Shown.{flags_shown, given_shown}
use Rattle.yr_scan.specs.Misfits.{why}
use Rattle.yr_scan.proofs.ReportLemmas.{reads_none}
use Rattle.yr_scan.proofs.imaging.scan_verified.Goals as goal

pub returns-in-Some-clause-fits : goal.returns-in-Some-clause-fits
returns-in-Some-clause-fits g c = λ setting same reading files there.
    let now = seen (g.F.Store.files c.args.store.now) (g.F.Store.trace c.args.store.now) (g.O.Sink.written c.args.out.now) in
    refuses setting files [] (λ found. with_externals setting reading found files (flags_shown c.args.flags) c.args.target.now (bytes_of c.args.image.now) (map given_shown c.args.givens.now)
    (first_misfit (externals_in (bytes_of c.args.image.now)) (map given_shown c.args.givens.now)))
    status.External (external_text c.in-Some.name.now (why c.in-Some.misfit)) c.refuse_external.result now now tt c.refuse_external.ensures there (reads_none now)
    (λ found. ap (with_externals setting reading found files (flags_shown c.args.flags) c.args.target.now (bytes_of c.args.image.now) (map given_shown c.args.givens.now)) (sym c.in-Some.ensures))

pub returns-in-None-clause-fits : goal.returns-in-None-clause-fits
returns-in-None-clause-fits g c = λ setting same reading files there.
    subst (λ o. FitsAnswer setting (λ found. with_externals setting reading found files (flags_shown c.args.flags) c.args.target.now (bytes_of c.args.image.now) (map given_shown c.args.givens.now) o)
    c.scan_valued.result
    (seen (g.F.Store.files c.args.store.now) (g.F.Store.trace c.args.store.now) (g.O.Sink.written c.args.out.now))
    (seen (g.F.Store.files c.scan_valued.new.store) (g.F.Store.trace c.scan_valued.new.store) (g.O.Sink.written c.scan_valued.new.out)))
    c.in-None.ensures (c.scan_valued.ensures.fits setting same reading files there)
