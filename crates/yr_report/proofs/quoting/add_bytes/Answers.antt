use Rattle.std.proofs.Common.{◌+◌, List, ℕ, drop, get_or, sym, subst, refl, rules}
use Rattle.std.specs.List.{flat_map}
use Rattle.yr_base.proofs.Pieces.{flat_map-take, flat_map-split}
use Rattle.yr_answer.specs.Report.{quoted_byte}
use Rattle.yr_report.specs.Adding.{waiting, Added}
use Rattle.yr_report.proofs.AddLemmas.{added-both, goes-breaks}
use Rattle.yr_report.proofs.quoting.add_bytes.Goals as goal

pub returns-in_err-add_byte-clause-added : goal.returns-in_err-add_byte-clause-added
returns-in_err-add_byte-clause-added g c =
    let text = c.args.text.now in
    let i = c.loop-b.b-index in
    goes-breaks (waiting c.add_byte.new.line) c.from_residual.result (g.O.Sink.faults c.args.out.now) (g.O.Sink.faults c.loop-b.out) (g.O.Sink.faults c.add_byte.new.out)
    (quoted_byte (get_or text i _)) (flat_map quoted_byte (drop (i + 1) text)) c.from_residual.ensures.0 c.loop-b.invariant.later
    (record { bytes = _; added = c.loop-b.invariant.so_far; whole = flat_map-split quoted_byte text i _ c.loop-b-test.true }) refl c.in_err-add_byte.ensures.added

pub loop-b-preserved : goal.loop-b-preserved
loop-b-preserved g c = record {
  later = search rules;
  so_far = subst (λ (l : List ℕ). Added (g.O.Sink.written c.args.out.now) (g.O.Sink.written c.add_byte.new.out) (waiting c.args.line.now) (waiting c.add_byte.new.line) l)
      (sym (flat_map-take quoted_byte c.args.text.now c.loop-b.b-index _ c.loop-b-test.true))
      (added-both c.loop-b.invariant.so_far c.in_ok-add_byte.ensures.added);
}
