use Rattle.std.proofs.Common.{ℕ, List, subst}
use Rattle.yr_image.specs.Views.{image_of}
use Rattle.yr_report.specs.Adding.{waiting, Adds}
use Rattle.yr_report.proofs.AddLemmas.{added-unasked, adds-asked}
use Rattle.yr_report.proofs.EntryLemmas.{meta_is}
use Rattle.yr_report.proofs.note.add_all_meta.Goals as goal

pub returns-then-asked-clause-added : goal.returns-then-asked-clause-added
returns-then-asked-clause-added g c =
    adds-asked (g.O.Sink.written c.args.out.now) (g.O.Sink.written c.add_notes.new.out) (waiting c.args.line.now) (waiting c.add_notes.new.line) _ c.add_notes.result
    (g.O.Sink.faults c.args.out.now) (g.O.Sink.faults c.add_notes.new.out) c.args.asked c.if-asked.true
    (subst (λ (l : List ℕ). Adds (g.O.Sink.written c.args.out.now) (g.O.Sink.written c.add_notes.new.out) (waiting c.args.line.now) (waiting c.add_notes.new.line) l c.add_notes.result
    (g.O.Sink.faults c.args.out.now) (g.O.Sink.faults c.add_notes.new.out)) (meta_is (image_of c.args.view.now) c.args.rule.now) c.add_notes.ensures.added)

pub returns-else-asked-clause-added : goal.returns-else-asked-clause-added
returns-else-asked-clause-added g c = added-unasked (g.O.Sink.written c.args.out.now) (waiting c.args.line.now) _ c.args.asked c.if-asked.false
