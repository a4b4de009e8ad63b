use Rattle.std.proofs.Common.{◌≡◌, ◌≤◌, [], flat_map}
use Rattle.yr_answer.specs.Report.{rule_text}
use Rattle.yr_answer.specs.Reported.{reported_of}
use Rattle.yr_answer.specs.Truths.{truths_shown}
use Rattle.yr_image.specs.Views.{image_of}
use Rattle.yr_machine.specs.Listing.{listed_rules}
use Rattle.yr_report.specs.Adding.{waiting}
use Rattle.yr_report.specs.Scenes.{lists_of}
use Rattle.yr_report.proofs.AddLemmas.{Goes}
use Rattle.yr_report.proofs.JudgedLemmas.{report_from}
use Rattle.yr_report.proofs.writing.put_rules.Given as goal

-- the lines of the rules from rule k on are to come
abbrev pub invariant-loop-k : goal.invariant-loop-k
invariant-loop-k g l = record {
  later : g.O.Sink.faults l.fn.out ≤ g.O.Sink.faults l.out;
  goes : Goes (g.O.Sink.written l.fn.out) (g.O.Sink.written l.out) (waiting l.fn.line) (waiting l.line)
      (report_from l.scene (rule_text (lists_of l.scene) l.scene.options l.scene.target.now) l.k)
      (flat_map (rule_text (lists_of l.scene) l.scene.options l.scene.target.now)
      (reported_of l.scene.options.negate (listed_rules (image_of l.scene.view)) (truths_shown l.scene.results.now)));
  empty : waiting l.line ≡ [];
}
