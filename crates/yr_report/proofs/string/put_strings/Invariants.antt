use Rattle.std.proofs.Common.{◌≡◌, ◌+◌, ◌≤◌, [], flat_map}
use Rattle.yr_answer.specs.Report.{string_lines}
use Rattle.yr_image.specs.Views.{image_of}
use Rattle.yr_machine.specs.Listing.{listed_strings, listed_rule}
use Rattle.yr_report.specs.Adding.{waiting}
use Rattle.yr_report.specs.Scenes.{lists_of}
use Rattle.yr_report.proofs.AddLemmas.{Goes}
use Rattle.yr_report.proofs.RangeLemmas.{between}
use Rattle.yr_report.proofs.string.put_strings.Given as goal

-- the lines of the strings from string k on are to come
abbrev pub invariant-loop-k : goal.invariant-loop-k
invariant-loop-k g l =
    let text = flat_map (string_lines (lists_of l.scene)) in record {
      later : g.O.Sink.faults l.fn.out ≤ g.O.Sink.faults l.out;
      end : l.k-end ≡ l.rule.first_string + l.rule.strings;
      goes : Goes (g.O.Sink.written l.fn.out) (g.O.Sink.written l.out) (waiting l.fn.line) (waiting l.line)
          (text (listed_strings (image_of l.scene.view) l.k (between l.k l.k-end (image_of l.scene.view).strings))) (text (listed_rule (image_of l.scene.view) l.rule).strings);
      empty : waiting l.line ≡ [];
    }
