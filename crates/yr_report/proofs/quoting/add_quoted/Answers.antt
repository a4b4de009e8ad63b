use Rattle.std.proofs.Common.{◌++◌, refl, arith}
use Rattle.std.specs.Prelude.{codes}
use Rattle.std.specs.List.{flat_map}
use Rattle.yr_answer.specs.Report.{quoted_byte}
use Rattle.yr_report.specs.Adding.{waiting}
use Rattle.yr_report.proofs.AddLemmas.{goes-start, goes-on, goes-ends, goes-breaks}
use Rattle.yr_report.proofs.quoting.add_quoted.Goals as goal

pub returns-in_err-add_quote-clause-added : goal.returns-in_err-add_quote-clause-added
returns-in_err-add_quote-clause-added g c =
    goes-breaks (waiting c.add_quote.new.line) c.from_residual.result (g.O.Sink.faults c.args.out.now) (g.O.Sink.faults c.args.out.now) (g.O.Sink.faults c.add_quote.new.out)
    (codes "\"") (flat_map quoted_byte c.args.text.now ++ codes "\"") c.from_residual.ensures.0 (omega arith) (goes-start _ _ _) refl c.in_err-add_quote.ensures.added

pub returns-in_err-add_bytes-clause-added : goal.returns-in_err-add_bytes-clause-added
returns-in_err-add_bytes-clause-added g c =
    goes-breaks (waiting c.add_bytes.new.line) c.from_residual-in_err-add_bytes.result (g.O.Sink.faults c.args.out.now) (g.O.Sink.faults c.add_quote.new.out) (g.O.Sink.faults c.add_bytes.new.out)
    (flat_map quoted_byte c.args.text.now) (codes "\"") c.from_residual-in_err-add_bytes.ensures.0 c.add_quote.ensures.later
    (goes-on _ (goes-start _ _ _) refl c.in_ok-add_quote.ensures.added) refl c.in_err-add_bytes.ensures.added

pub returns-clause-added : goal.returns-clause-added
returns-clause-added g c =
    goes-ends (g.O.Sink.written c.add_quote-2.new.out) (waiting c.add_quote-2.new.line) (codes "\"") c.add_quote-2.result (g.O.Sink.faults c.args.out.now) (g.O.Sink.faults c.add_bytes.new.out)
    (g.O.Sink.faults c.add_quote-2.new.out) (omega (arith, c.add_quote.ensures.later, c.add_bytes.ensures.later))
    (goes-on _ (goes-on _ (goes-start _ _ _) refl c.in_ok-add_quote.ensures.added) refl c.in_ok-add_bytes.ensures.added) refl c.add_quote-2.ensures.added
