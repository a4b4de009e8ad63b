use Rattle.yr_report.specs.Adding.{waiting}
use Rattle.yr_report.proofs.AddLemmas.{added-unasked, adds-asked}
use Rattle.yr_report.proofs.rule.add_asked_namespace.Goals as goal

pub returns-then-scene-clause-added : goal.returns-then-scene-clause-added
returns-then-scene-clause-added g c =
    adds-asked (g.O.Sink.written c.args.out.now) (g.O.Sink.written c.add_namespace.new.out) (waiting c.args.line.now) (waiting c.add_namespace.new.line) _ c.add_namespace.result
    (g.O.Sink.faults c.args.out.now) (g.O.Sink.faults c.add_namespace.new.out) c.args.scene.now.options.spaces c.if-scene.true c.add_namespace.ensures.added

pub returns-else-scene-clause-added : goal.returns-else-scene-clause-added
returns-else-scene-clause-added g c = added-unasked (g.O.Sink.written c.args.out.now) (waiting c.args.line.now) _ c.args.scene.now.options.spaces c.if-scene.false
