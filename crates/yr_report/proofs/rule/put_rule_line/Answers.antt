use Rattle.std.proofs.Common.{[], refl, sym, arith, append-nil}
use Rattle.yr_answer.specs.Report.{rule_line}
use Rattle.yr_image.specs.Views.{image_of}
use Rattle.yr_machine.specs.Listing.{listed_rule}
use Rattle.yr_report.specs.Adding.{waiting}
use Rattle.yr_report.proofs.AddLemmas.{goes-start, goes-on, goes-ends, goes-breaks}
use Rattle.yr_report.proofs.rule.put_rule_line.Goals as goal

pub returns-in_err-add_rule_line-clause-added : goal.returns-in_err-add_rule_line-clause-added
returns-in_err-add_rule_line-clause-added g c =
    let scene = c.args.scene.now in
    goes-breaks (waiting c.add_rule_line.new.line) c.from_residual.result (g.O.Sink.faults c.args.out.now) (g.O.Sink.faults c.args.out.now) (g.O.Sink.faults c.add_rule_line.new.out)
    (rule_line scene.options scene.target.now (listed_rule (image_of scene.view) c.args.rule.now)) [] c.from_residual.ensures.0 (omega arith) (goes-start _ _ _) (sym (append-nil _))
    c.in_err-add_rule_line.ensures.added

pub returns-clause-added : goal.returns-clause-added
returns-clause-added g c =
    goes-ends (g.O.Sink.written c.end.new.out) (waiting c.end.new.self) [] c.end.result (g.O.Sink.faults c.args.out.now) (g.O.Sink.faults c.add_rule_line.new.out)
    (g.O.Sink.faults c.end.new.out) c.add_rule_line.ensures.later (goes-on [] (goes-start _ _ _) (sym (append-nil _)) c.in_ok-add_rule_line.ensures.added) refl c.end.ensures.added
