use Rattle.std.proofs.Common.{◌++◌, false, refl, arith}
use Rattle.std.specs.Prelude.{codes}
use Rattle.yr_image.specs.Views.{image_of}
use Rattle.yr_machine.specs.Listing.{notes_of}
use Rattle.yr_report.specs.Adding.{waiting}
use Rattle.yr_report.specs.Entries.{is_asked, note_text, entries}
use Rattle.yr_report.proofs.AddLemmas.{goes-start, goes-on, goes-ends, goes-breaks}
use Rattle.yr_report.proofs.EntryLemmas.{in_brackets}
use Rattle.yr_report.proofs.note.add_notes.Goals as goal

pub returns-in_err-add-clause-added : goal.returns-in_err-add-clause-added
returns-in_err-add-clause-added g c =
    let image = image_of c.args.view.now in
    let tags = c.args.tags in
    let notes = notes_of image c.args.rule.now in
    goes-breaks (waiting c.add.new.self) c.from_residual.result (g.O.Sink.faults c.args.out.now) (g.O.Sink.faults c.args.out.now) (g.O.Sink.faults c.add.new.out)
    (codes " [") (entries (is_asked tags) (note_text image tags) false notes ++ codes "]") c.from_residual.ensures.0 (omega arith) (goes-start _ _ _)
    (in_brackets (is_asked tags) (note_text image tags) notes) c.in_err-add.ensures.added

pub returns-in_err-add_entries-clause-added : goal.returns-in_err-add_entries-clause-added
returns-in_err-add_entries-clause-added g c =
    let image = image_of c.args.view.now in
    let tags = c.args.tags in
    let notes = notes_of image c.args.rule.now in
    goes-breaks (waiting c.add_entries.new.line) c.from_residual-in_err-add_entries.result (g.O.Sink.faults c.args.out.now) (g.O.Sink.faults c.add.new.out) (g.O.Sink.faults c.add_entries.new.out)
    (entries (is_asked tags) (note_text image tags) false notes) (codes "]") c.from_residual-in_err-add_entries.ensures.0 c.add.ensures.later
    (goes-on _ (goes-start _ _ _) (in_brackets (is_asked tags) (note_text image tags) notes) c.in_ok-add.ensures.added) refl c.in_err-add_entries.ensures.added

pub returns-clause-added : goal.returns-clause-added
returns-clause-added g c =
    let image = image_of c.args.view.now in
    let tags = c.args.tags in
    let notes = notes_of image c.args.rule.now in
    goes-ends (g.O.Sink.written c.add-2.new.out) (waiting c.add-2.new.self) (codes "]") c.add-2.result (g.O.Sink.faults c.args.out.now) (g.O.Sink.faults c.add_entries.new.out)
    (g.O.Sink.faults c.add-2.new.out) (omega (arith, c.add.ensures.later, c.add_entries.ensures.later))
    (goes-on _ (goes-on _ (goes-start _ _ _) (in_brackets (is_asked tags) (note_text image tags) notes) c.in_ok-add.ensures.added) refl c.in_ok-add_entries.ensures.added) refl c.add-2.ensures.added
