use Rattle.yr_report.specs.Adding.{waiting}
use Rattle.yr_report.proofs.AddLemmas.{adds-after-put, prefix-front}
use Rattle.yr_report.proofs.line.Line.add.Goals as goal

pub returns-in-Done-clause-added : goal.returns-in-Done-clause-added
returns-in-Done-clause-added g c =
    adds-after-put (g.O.Sink.written c.args.out.now) (g.O.Sink.written c.put.new.out) (g.O.Sink.written c.add_after.new.out) (waiting c.args.self.now) (waiting c.add_after.new.self) c.args.piece.now c.add_after.result (g.O.Sink.faults c.args.out.now) (g.O.Sink.faults c.put.new.out)
    (g.O.Sink.faults c.add_after.new.out) c.put.ensures.later c.in-Done.ensures.puts c.add_after.ensures.added

pub returns-in-Failed-clause-added : goal.returns-in-Failed-clause-added
returns-in-Failed-clause-added g c = (c.in-Failed.ensures.puts.0, prefix-front (waiting c.args.self.now) c.args.piece.now c.in-Failed.ensures.puts.1)
