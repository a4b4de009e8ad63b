use Rattle.std.proofs.Common.{◌≡◌, ◌∙◌, ◌++◌, List, map, ap, sym, subst}
use Rattle.yr_preserves.specs.Preserves.{externals_in}
use Rattle.yr_image.specs.Reading.{image_in}
use Rattle.yr_machine.specs.ImageRun.{FitExternals}
use Rattle.yr_outcome.specs.Answers.{hits_line, options_of}
use Rattle.yr_outcome.specs.Externals.{values_with}
use Rattle.yr_outcome.specs.Fits.{seen}
use Rattle.yr_outcome.specs.Outcome.{ReportedBy, image_scanned, shown as shown_answer}
use Rattle.yr_outcome.specs.Steps.{FitsAnswer}
use Rattle.yr_values.specs.Values.{Value, shown}
use Rattle.yr_machine.specs.Verified.{bytes_of}
use Rattle.yr_words.specs.Shown.{flags_shown, given_shown}
use Rattle.yr_scan.proofs.FitLemmas.{fit_externals}
use Rattle.yr_scan.proofs.ReportLemmas.{gives_by_image}
use Rattle.yr_scan.proofs.imaging.scan_valued.Goals as goal

pub scan_target-requires : goal.scan_target-requires
scan_target-requires g c =
    let bytes = bytes_of c.args.image.now in
    let values : map shown c.deref.result.now ≡ values_with (map given_shown c.args.givens.now) (externals_in bytes) = ap (map shown) c.deref.ensures.value ∙ c.in-Ok.ensures.values in
    record {
      externals = subst (λ (v : List Value). FitExternals (image_in bytes) v) (sym values)
          (fit_externals bytes c.args.image.now.wellformed (map given_shown c.args.givens.now) c.requires.fit);
    }

pub returns-in-Ok-clause-fits : goal.returns-in-Ok-clause-fits
returns-in-Ok-clause-fits g c = λ setting same reading files there.
    let bytes = bytes_of c.args.image.now in
    let flags = flags_shown c.args.flags in
    let values : map shown c.deref.result.now ≡ values_with (map given_shown c.args.givens.now) (externals_in bytes) = ap (map shown) c.deref.ensures.value ∙ c.in-Ok.ensures.values in
    subst (λ (v : List Value). FitsAnswer setting (λ found. image_scanned setting reading found files flags c.args.target.now bytes v) c.scan_target.result
    (seen (g.F.Store.files c.args.store.now) (g.F.Store.trace c.args.store.now) (g.O.Sink.written c.args.out.now))
    (seen (g.F.Store.files c.scan_target.new.store) (g.F.Store.trace c.scan_target.new.store) (g.O.Sink.written c.scan_target.new.out))) values
    (c.scan_target.ensures.fits setting files there
    (λ found file. shown_answer files (found.report ++ hits_line flags found.hits) (ReportedBy bytes file (map shown c.deref.result.now) (options_of flags) c.args.target.now))
    (gives_by_image setting same files bytes (map shown c.deref.result.now) flags c.args.target.now))
