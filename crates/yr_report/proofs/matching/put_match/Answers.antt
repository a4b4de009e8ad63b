use Rattle.std.proofs.Common.{[], refl, sym, arith, append-nil}
use Rattle.yr_answer.specs.Report.{match_line}
use Rattle.yr_report.specs.Adding.{waiting}
use Rattle.yr_report.proofs.AddLemmas.{goes-start, goes-on, goes-ends, goes-breaks}
use Rattle.yr_report.proofs.matching.put_match.Goals as goal

pub returns-in_err-add_match-clause-added : goal.returns-in_err-add_match-clause-added
returns-in_err-add_match-clause-added g c =
    goes-breaks (waiting c.add_match.new.line) c.from_residual.result (g.O.Sink.faults c.args.out.now) (g.O.Sink.faults c.args.out.now) (g.O.Sink.faults c.add_match.new.out)
    (match_line c.args.name.now c.args.found) [] c.from_residual.ensures.0 (omega arith) (goes-start _ _ _) (sym (append-nil _)) c.in_err-add_match.ensures.added

pub returns-clause-added : goal.returns-clause-added
returns-clause-added g c =
    goes-ends (g.O.Sink.written c.end.new.out) (waiting c.end.new.self) [] c.end.result (g.O.Sink.faults c.args.out.now) (g.O.Sink.faults c.add_match.new.out)
    (g.O.Sink.faults c.end.new.out) c.add_match.ensures.later (goes-on [] (goes-start _ _ _) (sym (append-nil _)) c.in_ok-add_match.ensures.added) refl c.end.ensures.added
