use Rattle.std.proofs.Common.{◌+◌, List, ℕ, drop, sym, subst, refl, rules}
use Rattle.std.specs.List.{flat_map}
use Rattle.yr_base.proofs.Pieces.{flat_map-take, flat_map-split}
use Rattle.yr_report.specs.Adding.{waiting, Added}
use Rattle.yr_report.proofs.AddLemmas.{added-both, goes-breaks}
use Rattle.yr_report.proofs.adding.add_all.Goals as goal

pub returns-in_err-add-clause-added : goal.returns-in_err-add-clause-added
returns-in_err-add-clause-added g c =
    let pieces = c.args.pieces.now in
    let i = c.loop-piece.piece-index in
    goes-breaks (waiting c.add.new.self) c.from_residual.result (g.O.Sink.faults c.args.out.now) (g.O.Sink.faults c.loop-piece.out) (g.O.Sink.faults c.add.new.out)
    _ (flat_map (λ p. p.now) (drop (i + 1) pieces)) c.from_residual.ensures.0 c.loop-piece.invariant.later
    (record { bytes = _; added = c.loop-piece.invariant.so_far; whole = flat_map-split (λ p. p.now) pieces i _ c.loop-piece-test.true }) refl c.in_err-add.ensures.added

pub loop-piece-preserved : goal.loop-piece-preserved
loop-piece-preserved g c = record {
  later = search rules;
  so_far = subst (λ (l : List ℕ). Added (g.O.Sink.written c.args.out.now) (g.O.Sink.written c.add.new.out) (waiting c.args.line.now) (waiting c.add.new.self) l)
      (sym (flat_map-take (λ p. p.now) c.args.pieces.now c.loop-piece.piece-index _ c.loop-piece-test.true))
      (added-both c.loop-piece.invariant.so_far c.in_ok-add.ensures.added);
}
