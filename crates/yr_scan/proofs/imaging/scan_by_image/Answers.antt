use Rattle.std.proofs.Common.{◌≡◌, ◌∙◌, ◌+◌, ◌≤◌, [], ◌∷◌, Some, length, map, refl, ap, sym, subst, take, arith}
use Rattle.std.proofs.lemmas.List.{take_all}
use Rattle.yr_image.specs.Sections.{most_bytes}
use Rattle.yr_outcome.specs.Fits.{seen}
use Rattle.yr_words.specs.Shown.{flags_shown, given_shown}
use Rattle.yr_scan.proofs.ReportLemmas.{behind_image}
use Rattle.yr_scan.proofs.imaging.scan_by_image.Goals as goal

pub returns-in-Done-clause-fits : goal.returns-in-Done-clause-fits
returns-in-Done-clause-fits g c = λ setting same reading is files there.
    let old = seen (g.F.Store.files c.args.store.now) (g.F.Store.trace c.args.store.now) (g.O.Sink.written c.args.out.now) in
    let mid = seen (g.F.Store.files c.read_file.new.self) (g.F.Store.trace c.read_file.new.self) (g.O.Sink.written c.args.out.now) in
    let new = seen (g.F.Store.files c.scan_read.new.store) (g.F.Store.trace c.scan_read.new.store) (g.O.Sink.written c.scan_read.new.out) in
    let bytes = c.deref.result.now in
    let short : length c.read_file.new.into.items ≤ most_bytes = c.in-Done.ensures.reads.0 in
    let cut : take (most_bytes + 1) c.read_file.new.into.items ≡ bytes = take_all (most_bytes + 1) c.read_file.new.into.items (omega (arith, short)) ∙ sym c.deref.ensures.value in
    behind_image setting reading files (flags_shown c.args.flags) c.args.image.now c.args.target.now (map given_shown c.args.givens.now) bytes c.read_file.new.into.items
    (c.in-Done.ensures.reads.1 files there) cut c.scan_read.result old mid new
    (record { files = c.in-Done.ensures.files; out = refl; noted = c.in-Done.ensures.trace })
    (c.scan_read.ensures.fits setting same reading is files (c.in-Done.ensures.files ∙ there))

pub returns-in-Long-clause-fits : goal.returns-in-Long-clause-fits
returns-in-Long-clause-fits g c = λ setting same reading is files there.
    let old = seen (g.F.Store.files c.args.store.now) (g.F.Store.trace c.args.store.now) (g.O.Sink.written c.args.out.now) in
    let mid = seen (g.F.Store.files c.read_file.new.self) (g.F.Store.trace c.read_file.new.self) (g.O.Sink.written c.args.out.now) in
    let new = seen (g.F.Store.files c.scan_read-in-Long.new.store) (g.F.Store.trace c.scan_read-in-Long.new.store) (g.O.Sink.written c.scan_read-in-Long.new.out) in
    let bytes = c.deref-in-Long.result.now in
    let longer = c.in-Long.ensures.reads.1 files there in
    behind_image setting reading files (flags_shown c.args.flags) c.args.image.now c.args.target.now (map given_shown c.args.givens.now) bytes longer.all
    longer.there (sym longer.cut ∙ sym c.deref-in-Long.ensures.value) c.scan_read-in-Long.result old mid new
    (record { files = c.in-Long.ensures.files; out = refl; noted = c.in-Long.ensures.trace })
    (c.scan_read-in-Long.ensures.fits setting same reading is files (c.in-Long.ensures.files ∙ there))

pub returns-in-Failed-clause-fits : goal.returns-in-Failed-clause-fits
returns-in-Failed-clause-fits g c = λ setting same reading is files there found. record {
  written = refl;
  files = c.in-Failed.ensures.files;
  noted = record { done = []; rest = _; whole = refl; added = c.in-Failed.ensures.trace };
}
