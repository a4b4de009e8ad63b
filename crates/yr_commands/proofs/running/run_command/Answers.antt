use Rattle.std.proofs.Common.{◌≡◌, None, map, sym, ap, subst, ◌∙◌}
use Rattle.yr_words.specs.Commands.{Command, Scan, ScanImage, Compile, Check, Work, givens_of}
use Rattle.yr_words.specs.Shown.{command_shown, flags_shown, source_shown, given_shown}
use Rattle.yr_outcome.specs.Externals.{twice_given}
use Rattle.yr_outcome.specs.Fits.{seen}
use Rattle.yr_outcome.specs.Outcome.{run}
use Rattle.yr_outcome.specs.Steps.{FitsAnswer}
use Rattle.yr_commands.specs.Fitting.{Fits}
use Rattle.yr_commands.specs.Program.{all_setting}
use Rattle.yr_commands.proofs.RunLemmas.{externals-fit}
use Rattle.yr_commands.proofs.running.run_command.Goals as goal

pub scan-requires-clause-externals : goal.scan-requires-clause-externals
scan-requires-clause-externals g c =
    externals-fit c.in-Scan.givens.items c.deref-in-Scan.result.now c.deref-in-Scan.ensures.value
    (subst (λ x. Fits (command_shown x)) c.in-Scan.is c.requires.fits).1 (subst (λ x. twice_given (givens_of (command_shown x)) ≡ None) c.in-Scan.is c.requires.different)

pub compile-requires-clause-externals : goal.compile-requires-clause-externals
compile-requires-clause-externals g c =
    externals-fit c.in-Compile.givens.items c.deref-in-Compile-2.result.now c.deref-in-Compile-2.ensures.value
    (subst (λ x. Fits (command_shown x)) c.in-Compile.is c.requires.fits).1 (subst (λ x. twice_given (givens_of (command_shown x)) ≡ None) c.in-Compile.is c.requires.different)

pub check-requires-clause-externals : goal.check-requires-clause-externals
check-requires-clause-externals g c =
    externals-fit c.in-Check.givens.items c.deref-in-Check-2.result.now c.deref-in-Check-2.ensures.value
    (subst (λ x. Fits (command_shown x)) c.in-Check.is c.requires.fits).1 (subst (λ x. twice_given (givens_of (command_shown x)) ≡ None) c.in-Check.is c.requires.different)

pub returns-in-Scan-clause-fits : goal.returns-in-Scan-clause-fits
returns-in-Scan-clause-fits g c = λ reading reads files told.
    let sources = c.deref.ensures.value in
    let givens = c.deref-in-Scan.ensures.value in
    subst (λ (x : Command). FitsAnswer all_setting (λ found. run all_setting reading found files x) c.scan.result
    (seen (g.F.Store.files c.args.store.now) (g.F.Store.trace c.args.store.now) (g.O.Sink.written c.args.out.now))
    (seen (g.F.Store.files c.scan.new.store) (g.F.Store.trace c.scan.new.store) (g.O.Sink.written c.scan.new.out)))
    ((λ i. Scan (flags_shown c.in-Scan.flags) (map source_shown (sources i)) c.in-Scan.target.now (map given_shown (givens i))) ∙ ap command_shown (sym c.in-Scan.is))
    (c.scan.ensures.fits reading reads files told)

pub returns-in-ScanImage-clause-fits : goal.returns-in-ScanImage-clause-fits
returns-in-ScanImage-clause-fits g c = λ reading reads files told.
    let givens = c.deref-in-ScanImage.ensures.value in
    subst (λ (x : Command). FitsAnswer all_setting (λ found. run all_setting reading found files x) c.scan_by_image.result
    (seen (g.F.Store.files c.args.store.now) (g.F.Store.trace c.args.store.now) (g.O.Sink.written c.args.out.now))
    (seen (g.F.Store.files c.scan_by_image.new.store) (g.F.Store.trace c.scan_by_image.new.store) (g.O.Sink.written c.scan_by_image.new.out)))
    ((λ i. ScanImage (flags_shown c.in-ScanImage.flags) c.in-ScanImage.image.now c.in-ScanImage.target.now (map given_shown (givens i))) ∙ ap command_shown (sym c.in-ScanImage.is))
    (c.scan_by_image.ensures.fits all_setting (λ i. all_setting.values) reading reads files told)

pub returns-in-Compile-clause-fits : goal.returns-in-Compile-clause-fits
returns-in-Compile-clause-fits g c = λ reading reads files told.
    let sources = c.deref-in-Compile.ensures.value in
    let givens = c.deref-in-Compile-2.ensures.value in
    subst (λ (x : Command). FitsAnswer all_setting (λ found. run all_setting reading found files x) c.compile.result
    (seen (g.F.Store.files c.args.store.now) (g.F.Store.trace c.args.store.now) (g.O.Sink.written c.args.out.now))
    (seen (g.F.Store.files c.compile.new.store) (g.F.Store.trace c.compile.new.store) (g.O.Sink.written c.args.out.now)))
    ((λ i. Compile (map source_shown (sources i)) c.in-Compile.output.now (map given_shown (givens i))) ∙ ap command_shown (sym c.in-Compile.is))
    (c.compile.ensures.fits reading reads files told (g.O.Sink.written c.args.out.now))

pub returns-in-Check-clause-fits : goal.returns-in-Check-clause-fits
returns-in-Check-clause-fits g c = λ reading reads files told.
    let sources = c.deref-in-Check.ensures.value in
    let givens = c.deref-in-Check-2.ensures.value in
    subst (λ (x : Command). FitsAnswer all_setting (λ found. run all_setting reading found files x) c.check.result
    (seen (g.F.Store.files c.args.store.now) (g.F.Store.trace c.args.store.now) (g.O.Sink.written c.args.out.now))
    (seen (g.F.Store.files c.check.new.store) (g.F.Store.trace c.check.new.store) (g.O.Sink.written c.check.new.out)))
    ((λ i. Check (map source_shown (sources i)) (map given_shown (givens i))) ∙ ap command_shown (sym c.in-Check.is))
    (c.check.ensures.fits reading reads files told)

pub returns-in-Work-clause-fits : goal.returns-in-Work-clause-fits
returns-in-Work-clause-fits g c = λ reading reads files told.
    subst (λ (x : Command). FitsAnswer all_setting (λ found. run all_setting reading found files x) c.work.result
    (seen (g.F.Store.files c.args.store.now) (g.F.Store.trace c.args.store.now) (g.O.Sink.written c.args.out.now))
    (seen (g.F.Store.files c.args.store.now) (g.F.Store.trace c.args.store.now) (g.O.Sink.written c.work.new.out)))
    (ap command_shown (sym c.in-Work.is))
    (c.work.ensures.fits reading reads files (g.F.Store.files c.args.store.now) told (g.F.Store.trace c.args.store.now))
