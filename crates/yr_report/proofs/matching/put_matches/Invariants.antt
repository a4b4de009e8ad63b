use Rattle.std.proofs.Common.{◌≡◌, ◌≤◌, [], take}
use Rattle.std.specs.List.{flat_map}
use Rattle.yr_answer.specs.Report.{match_line}
use Rattle.yr_report.specs.Adding.{waiting, Added}
use Rattle.yr_report.proofs.matching.put_matches.Given as goal

abbrev pub invariant-loop-found : goal.invariant-loop-found
invariant-loop-found g l = record {
  later : g.O.Sink.faults l.fn.out ≤ g.O.Sink.faults l.out;
  so_far : Added (g.O.Sink.written l.fn.out) (g.O.Sink.written l.out) (waiting l.fn.line) (waiting l.line) (flat_map (match_line l.name) (take l.found-index l.list));
  empty : waiting l.line ≡ [];
}
