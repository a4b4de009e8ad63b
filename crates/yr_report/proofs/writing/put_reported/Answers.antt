use Rattle.yr_report.specs.Adding.{waiting}
use Rattle.yr_report.proofs.AddLemmas.{added-unasked, adds-asked}
use Rattle.yr_report.proofs.writing.put_reported.Goals as goal

pub returns-then-reported-clause-added : goal.returns-then-reported-clause-added
returns-then-reported-clause-added g c =
    adds-asked (g.O.Sink.written c.args.out.now) (g.O.Sink.written c.put_rule.new.out) (waiting c.args.line.now) (waiting c.put_rule.new.line) _ c.put_rule.result
    (g.O.Sink.faults c.args.out.now) (g.O.Sink.faults c.put_rule.new.out) c.args.reported c.if-reported.true c.put_rule.ensures.added

pub returns-else-reported-clause-added : goal.returns-else-reported-clause-added
returns-else-reported-clause-added g c = added-unasked (g.O.Sink.written c.args.out.now) (waiting c.args.line.now) _ c.args.reported c.if-reported.false
