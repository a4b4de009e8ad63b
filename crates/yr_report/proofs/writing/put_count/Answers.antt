use Rattle.std.proofs.Common.{◌++◌, [], refl, sym, arith, append-nil, decimal}
use Rattle.std.specs.Prelude.{codes}
use Rattle.yr_report.specs.Adding.{waiting}
use Rattle.yr_report.proofs.AddLemmas.{goes-start, goes-on, goes-ends, goes-breaks}
use Rattle.yr_report.proofs.writing.put_count.Goals as goal

pub returns-in_err-add_count-clause-added : goal.returns-in_err-add_count-clause-added
returns-in_err-add_count-clause-added g c =
    goes-breaks (waiting c.add_count.new.line) c.from_residual.result (g.O.Sink.faults c.args.out.now) (g.O.Sink.faults c.args.out.now) (g.O.Sink.faults c.add_count.new.out)
    (decimal c.args.count ++ codes "\n") [] c.from_residual.ensures.0 (omega arith) (goes-start _ _ _) (sym (append-nil _)) c.in_err-add_count.ensures.added

pub returns-clause-added : goal.returns-clause-added
returns-clause-added g c =
    goes-ends (g.O.Sink.written c.end.new.out) (waiting c.end.new.self) [] c.end.result (g.O.Sink.faults c.args.out.now) (g.O.Sink.faults c.add_count.new.out)
    (g.O.Sink.faults c.end.new.out) c.add_count.ensures.later (goes-on [] (goes-start _ _ _) (sym (append-nil _)) c.in_ok-add_count.ensures.added) refl c.end.ensures.added
