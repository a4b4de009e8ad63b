use Rattle.std.proofs.Common.{◌+◌, ◌<◌, ◌++◌, ℕ, List, length, flat_map, sym, ap, ◌∙◌, subst, arith, rules}
use Rattle.yr_answer.specs.Report.{on_request, rule_text}
use Rattle.yr_answer.specs.Reported.{reported_of}
use Rattle.yr_answer.specs.Truths.{truths_shown}
use Rattle.yr_image.specs.Views.{shown_bytes, image_of}
use Rattle.yr_machine.specs.Listing.{listed_rule, listed_rules}
use Rattle.yr_report.specs.Adding.{waiting}
use Rattle.yr_report.specs.Scenes.{lists_of}
use Rattle.yr_report.proofs.AddLemmas.{Goes, goes-start, goes-on, goes-out, goes-breaks}
use Rattle.yr_report.proofs.RowLemmas.{few-rules, has-ranges}
use Rattle.yr_report.proofs.JudgedLemmas.{report_from, report-first, report-next, report-none}
use Rattle.yr_report.proofs.writing.put_rules.Goals as goal

pub loop-k-init : goal.loop-k-init
loop-k-init g c =
    let scene = c.args.scene.now in
    let text = rule_text (lists_of scene) scene.options scene.target.now in
    let all = flat_map text (reported_of scene.options.negate (listed_rules (image_of scene.view)) (truths_shown scene.results.now)) in record {
      later = omega arith;
      goes =
          subst (λ (l : List ℕ). Goes (g.O.Sink.written c.args.out.now) (g.O.Sink.written c.args.out.now) (waiting c.args.line.now) (waiting c.args.line.now) l all)
          (report-first scene text) (goes-start _ _ all);
      empty = c.requires.nothing;
    }

pub overflow_cast-k : goal.overflow_cast-k
overflow_cast-k g c = omega (arith, few-rules (shown_bytes c.args.scene.now.view) c.requires.good.wellformed, c.requires.good.results)

pub put_reported-requires-clause-ranges : goal.put_reported-requires-clause-ranges
put_reported-requires-clause-ranges g c =
    has-ranges (shown_bytes c.args.scene.now.view) c.requires.good.wellformed c.loop-k.k c.rule-rule.result c.rule-rule.ensures

pub returns-in_err-put_reported-clause-added : goal.returns-in_err-put_reported-clause-added
returns-in_err-put_reported-clause-added g c =
    let scene = c.args.scene.now in
    let image = image_of scene.view in
    let text = rule_text (lists_of scene) scene.options scene.target.now in
    let l = c.loop-k in
    let inside : l.k < length scene.results.now = c.loop-k-test.true in
    let rule = listed_rule image c.rule-rule.result in
    let next = report-next scene text l.k c.rule-rule.result _ inside c.rule-rule.ensures in
    goes-breaks (waiting c.put_reported.new.line) c.from_residual.result (g.O.Sink.faults c.args.out.now) (g.O.Sink.faults l.out) (g.O.Sink.faults c.put_reported.new.out)
    (on_request c.is_reported-reported.result (text rule)) (report_from scene text (l.k + 1)) c.from_residual.ensures.0 l.invariant.later l.invariant.goes
    (next ∙ ap (λ b. on_request b (text rule) ++ report_from scene text (l.k + 1)) (sym c.is_reported-reported.ensures)) c.in_err-put_reported.ensures.added

pub loop-k-preserved : goal.loop-k-preserved
loop-k-preserved g c =
    let scene = c.args.scene.now in
    let image = image_of scene.view in
    let text = rule_text (lists_of scene) scene.options scene.target.now in
    let l = c.loop-k in
    let inside : l.k < length scene.results.now = c.loop-k-test.true in
    let rule = listed_rule image c.rule-rule.result in
    let next = report-next scene text l.k c.rule-rule.result _ inside c.rule-rule.ensures in record {
      later = search rules;
      goes =
          goes-on _ l.invariant.goes
          (next ∙ ap (λ b. on_request b (text rule) ++ report_from scene text (l.k + 1)) (sym c.is_reported-reported.ensures)) c.in_ok-put_reported.ensures.added;
      empty = c.in_ok-put_reported.ensures.empty;
    }

pub returns-clause-added : goal.returns-clause-added
returns-clause-added g c =
    let scene = c.args.scene.now in
    goes-out c.loop-k.invariant.goes
    (report-none scene (rule_text (lists_of scene) scene.options scene.target.now) c.loop-k.k c.loop-k-test.false)
