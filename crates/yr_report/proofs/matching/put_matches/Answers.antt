use Rattle.std.proofs.Common.{◌+◌, List, ℕ, drop, sym, subst, refl, rules}
use Rattle.std.specs.List.{flat_map}
use Rattle.yr_base.proofs.Pieces.{flat_map-take, flat_map-split}
use Rattle.yr_answer.specs.Report.{match_line}
use Rattle.yr_report.specs.Adding.{waiting, Added}
use Rattle.yr_report.proofs.AddLemmas.{added-both, goes-breaks}
use Rattle.yr_report.proofs.matching.put_matches.Goals as goal

pub returns-in_err-put_match-clause-added : goal.returns-in_err-put_match-clause-added
returns-in_err-put_match-clause-added g c =
    let list = c.args.list.now in
    let i = c.loop-found.found-index in
    let line = match_line c.args.name.now in
    goes-breaks (waiting c.put_match.new.line) c.from_residual.result (g.O.Sink.faults c.args.out.now) (g.O.Sink.faults c.loop-found.out) (g.O.Sink.faults c.put_match.new.out)
    _ (flat_map line (drop (i + 1) list)) c.from_residual.ensures.0 c.loop-found.invariant.later
    (record { bytes = _; added = c.loop-found.invariant.so_far; whole = flat_map-split line list i _ c.loop-found-test.true }) refl c.in_err-put_match.ensures.added

pub loop-found-preserved : goal.loop-found-preserved
loop-found-preserved g c = record {
  later = search rules;
  so_far = subst (λ (l : List ℕ). Added (g.O.Sink.written c.args.out.now) (g.O.Sink.written c.put_match.new.out) (waiting c.args.line.now) (waiting c.put_match.new.line) l)
      (sym (flat_map-take (match_line c.args.name.now) c.args.list.now c.loop-found.found-index _ c.loop-found-test.true))
      (added-both c.loop-found.invariant.so_far c.in_ok-put_match.ensures.added);
  empty = c.in_ok-put_match.ensures.empty;
}
