use Rattle.std.proofs.Common.{refl, arith}
use Rattle.std.specs.Prelude.{codes}
use Rattle.yr_answer.specs.Report.{on_request}
use Rattle.yr_image.specs.Views.{image_of}
use Rattle.yr_report.specs.Adding.{waiting}
use Rattle.yr_report.specs.Entries.{note_text}
use Rattle.yr_report.proofs.AddLemmas.{goes-start, goes-on, goes-ends, goes-breaks}
use Rattle.yr_report.proofs.note.add_next.Goals as goal

pub returns-in_err-add_comma-clause-added : goal.returns-in_err-add_comma-clause-added
returns-in_err-add_comma-clause-added g c =
    goes-breaks (waiting c.add_comma.new.line) c.from_residual.result (g.O.Sink.faults c.args.out.now) (g.O.Sink.faults c.args.out.now) (g.O.Sink.faults c.add_comma.new.out)
    (on_request c.args.some (codes ",")) (note_text (image_of c.args.view.now) c.args.tags c.args.note.now) c.from_residual.ensures.0 (omega arith) (goes-start _ _ _) refl c.in_err-add_comma.ensures.added

pub returns-clause-added : goal.returns-clause-added
returns-clause-added g c =
    goes-ends (g.O.Sink.written c.add_note.new.out) (waiting c.add_note.new.line) (note_text (image_of c.args.view.now) c.args.tags c.args.note.now) c.add_note.result
    (g.O.Sink.faults c.args.out.now) (g.O.Sink.faults c.add_comma.new.out) (g.O.Sink.faults c.add_note.new.out) c.add_comma.ensures.later
    (goes-on _ (goes-start _ _ _) refl c.in_ok-add_comma.ensures.added) refl c.add_note.ensures.added
