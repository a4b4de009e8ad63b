use Rattle.yr_report.specs.Adding.{waiting}
use Rattle.yr_report.proofs.AddLemmas.{added-unasked, adds-asked}
use Rattle.yr_report.proofs.rule.put_asked_strings.Goals as goal

pub returns-then-scene-clause-added : goal.returns-then-scene-clause-added
returns-then-scene-clause-added g c =
    adds-asked (g.O.Sink.written c.args.out.now) (g.O.Sink.written c.put_strings.new.out) (waiting c.args.line.now) (waiting c.put_strings.new.line) _ c.put_strings.result
    (g.O.Sink.faults c.args.out.now) (g.O.Sink.faults c.put_strings.new.out) c.args.scene.now.options.strings c.if-scene.true c.put_strings.ensures.added

pub returns-else-scene-clause-added : goal.returns-else-scene-clause-added
returns-else-scene-clause-added g c = added-unasked (g.O.Sink.written c.args.out.now) (waiting c.args.line.now) _ c.args.scene.now.options.strings c.if-scene.false
