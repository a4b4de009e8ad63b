use Rattle.std.proofs.Common.{◌≤◌, take}
use Rattle.std.specs.List.{flat_map}
use Rattle.yr_answer.specs.Report.{quoted_byte}
use Rattle.yr_report.specs.Adding.{waiting, Added}
use Rattle.yr_report.proofs.quoting.add_bytes.Given as goal

abbrev pub invariant-loop-b : goal.invariant-loop-b
invariant-loop-b g l = record {
  later : g.O.Sink.faults l.fn.out ≤ g.O.Sink.faults l.out;
  so_far : Added (g.O.Sink.written l.fn.out) (g.O.Sink.written l.out) (waiting l.fn.line) (waiting l.line) (flat_map quoted_byte (take l.b-index l.text));
}
