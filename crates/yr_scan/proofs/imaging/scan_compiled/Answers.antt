use Rattle.std.proofs.Common.{◌≡◌, ◌∙◌, ◌++◌, [], All, List, map, refl, ap, sym, subst}
use Rattle.yr_preserves.specs.Preserves.{IsGivenValue, externals_in}
use Rattle.yr_preserves.specs.Shape.{IsCompiled}
use Rattle.yr_image.specs.Reading.{image_in}
use Rattle.yr_machine.specs.ImageRun.{FitExternals}
use Rattle.yr_meaning.specs.Scan.{scan_report}
use Rattle.yr_outcome.specs.Answers.{hits_line, options_of, own_values}
use Rattle.yr_outcome.specs.Externals.{values_with}
use Rattle.yr_outcome.specs.Outcome.{CompiledHits, if_stats, shown as shown_answer}
use Rattle.yr_scan.specs.Scanned.{module_values}
use Rattle.yr_values.specs.Values.{Value, shown}
use Rattle.yr_machine.specs.Verified.{bytes_of}
use Rattle.yr_words.specs.Shown.{flags_shown}
use Rattle.yr_scan.proofs.FitLemmas.{fit_externals}
use Rattle.yr_scan.proofs.ReportLemmas.{gives_by_rules, stops_now}
use Rattle.yr_scan.proofs.imaging.scan_compiled.Goals as goal

pub scan_target-requires : goal.scan_target-requires
scan_target-requires g c =
    let bytes = bytes_of c.adopt-image.result in
    let values : map shown c.deref.result.now ≡ values_with [] (externals_in bytes) = ap (map shown) c.deref.ensures.value ∙ c.in-Ok.ensures.values in
    record { externals = subst (λ (v : List Value). FitExternals (image_in bytes) v) (sym values) (fit_externals bytes c.adopt-image.result.wellformed [] refl) }

pub returns-in-Ok-clause-fits : goal.returns-in-Ok-clause-fits
returns-in-Ok-clause-fits g c = λ setting same reading rules compiled files there.
    let bytes = bytes_of c.adopt-image.result in
    let values : map shown c.deref.result.now ≡ values_with [] (externals_in bytes) = ap (map shown) c.deref.ensures.value ∙ c.in-Ok.ensures.values in
    let given : All IsGivenValue (map shown c.deref.result.now) = subst (λ l. All IsGivenValue (map shown l)) (sym c.deref.ensures.value) c.in-Ok.ensures.given in
    let here : IsCompiled module_values bytes rules = subst (λ b. IsCompiled module_values b rules) (sym c.adopt-image.ensures) compiled in
    c.scan_target.ensures.fits setting files there
    (λ found file. shown_answer files
    (scan_report (setting.values file) rules (own_values rules.externals) file (options_of (flags_shown c.args.flags)) c.args.target.now ++ hits_line (flags_shown c.args.flags) found.hits)
    (if_stats (flags_shown c.args.flags) (CompiledHits rules file)))
    (gives_by_rules setting same files bytes rules here (map shown c.deref.result.now) values given (flags_shown c.args.flags) c.args.target.now)

pub returns-in-Err-clause-fits : goal.returns-in-Err-clause-fits
returns-in-Err-clause-fits g c = λ setting same reading rules compiled files there found. stops_now _ _
