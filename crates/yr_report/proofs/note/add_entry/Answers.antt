use Rattle.std.proofs.Common.{sym, ◌∙◌}
use Rattle.yr_report.specs.Adding.{waiting}
use Rattle.yr_report.specs.Entries.{is_asked}
use Rattle.yr_report.proofs.AddLemmas.{added-unasked, adds-asked}
use Rattle.yr_report.proofs.note.add_entry.Goals as goal

pub returns-then-is_asked-clause-added : goal.returns-then-is_asked-clause-added
returns-then-is_asked-clause-added g c =
    adds-asked (g.O.Sink.written c.args.out.now) (g.O.Sink.written c.add_next.new.out) (waiting c.args.line.now) (waiting c.add_next.new.line) _ c.add_next.result
    (g.O.Sink.faults c.args.out.now) (g.O.Sink.faults c.add_next.new.out) (is_asked c.args.tags c.args.note.now) (sym c.is_asked.ensures ∙ c.if-is_asked.true) c.add_next.ensures.added

pub returns-else-is_asked-clause-added : goal.returns-else-is_asked-clause-added
returns-else-is_asked-clause-added g c =
    added-unasked (g.O.Sink.written c.args.out.now) (waiting c.args.line.now) _ (is_asked c.args.tags c.args.note.now) (sym c.is_asked.ensures ∙ c.if-is_asked.false)
