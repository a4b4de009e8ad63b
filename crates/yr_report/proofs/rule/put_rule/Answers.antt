use Rattle.std.proofs.Common.{refl, arith, flat_map}
use Rattle.yr_answer.specs.Report.{on_request, string_lines, rule_line}
use Rattle.yr_image.specs.Views.{image_of}
use Rattle.yr_machine.specs.Listing.{listed_rule}
use Rattle.yr_report.specs.Adding.{waiting}
use Rattle.yr_report.specs.Scenes.{lists_of}
use Rattle.yr_report.proofs.AddLemmas.{goes-start, goes-on, goes-ends, goes-breaks}
use Rattle.yr_report.proofs.rule.put_rule.Goals as goal

pub returns-in_err-put_rule_line-clause-added : goal.returns-in_err-put_rule_line-clause-added
returns-in_err-put_rule_line-clause-added g c =
    let scene = c.args.scene.now in
    let rule = listed_rule (image_of scene.view) c.args.rule.now in
    goes-breaks (waiting c.put_rule_line.new.line) c.from_residual.result (g.O.Sink.faults c.args.out.now) (g.O.Sink.faults c.args.out.now) (g.O.Sink.faults c.put_rule_line.new.out)
    (rule_line scene.options scene.target.now rule) (on_request scene.options.strings (flat_map (string_lines (lists_of scene)) rule.strings)) c.from_residual.ensures.0 (omega arith)
    (goes-start _ _ _) refl c.in_err-put_rule_line.ensures.added

pub returns-clause-added : goal.returns-clause-added
returns-clause-added g c =
    let scene = c.args.scene.now in
    let rule = listed_rule (image_of scene.view) c.args.rule.now in
    goes-ends (g.O.Sink.written c.put_asked_strings.new.out) (waiting c.put_asked_strings.new.line) (on_request scene.options.strings (flat_map (string_lines (lists_of scene)) rule.strings))
    c.put_asked_strings.result (g.O.Sink.faults c.args.out.now) (g.O.Sink.faults c.put_rule_line.new.out) (g.O.Sink.faults c.put_asked_strings.new.out) c.put_rule_line.ensures.later
    (goes-on _ (goes-start _ _ _) refl c.in_ok-put_rule_line.ensures.added) refl c.put_asked_strings.ensures.added
