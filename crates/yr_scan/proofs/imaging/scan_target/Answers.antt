use Rattle.std.proofs.Common.{◌∙◌, ◌≤◌, [], ◌∷◌, Some, length, ap, sym, subst}
use Rattle.yr_outcome.specs.Fits.{seen}
use Rattle.yr_outcome.proofs.CallerLemmas.{FitsAnswer-after_reads}
use Rattle.yr_scan.proofs.ReportLemmas.{behind_target}
use Rattle.yr_scan.proofs.imaging.scan_target.Goals as goal

pub returns-clause-fits : goal.returns-clause-fits
returns-clause-fits g c = λ setting files there answer gives.
    let before = seen (g.F.Store.files c.args.store.now) (g.F.Store.trace c.args.store.now) (g.O.Sink.written c.args.out.now) in
    let between = seen (g.F.Store.files c.read_target.new.store) (g.F.Store.trace c.read_target.new.store) (g.O.Sink.written c.args.out.now) in
    let after = seen (g.F.Store.files c.read_target.new.store) (g.F.Store.trace c.read_target.new.store) (g.O.Sink.written c.report_read.new.out) in
    let read = c.in-None.ensures.fits setting files there (g.O.Sink.written c.args.out.now) answer in
    let reported = c.report_read.ensures.fits setting files (g.F.Store.files c.read_target.new.store) (c.in-None.ensures.files ∙ there) (g.F.Store.trace c.read_target.new.store) answer gives in
    behind_target setting files c.args.target.now answer c.deref.result.now (read.0 ∙ ap Some (sym c.deref.ensures.value)) (subst (λ l. length l ≤ 268435456) (sym c.deref.ensures.value) read.1) c.report_read.result before after
    (FitsAnswer-after_reads (c.args.target.now ∷ []) before between after read.2 setting (λ found. answer found c.deref.result.now) c.report_read.result reported)
