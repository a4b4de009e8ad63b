use Rattle.std.proofs.Common.{rules}
use Rattle.yr_base.specs.Told.{told_more-after, AddsPrefix-after}
use Rattle.yr_base.proofs.Pieces.{flat_map-take, flat_map-split}
use Rattle.yr_base.proofs.putting.put_all.Goals as goal

pub returns-in-Failed-clause-puts : goal.returns-in-Failed-clause-puts
returns-in-Failed-clause-puts g c = (
  search rules,
  AddsPrefix-after _ _ _ _ _ _ _ c.loop-piece.invariant.so_far c.in-Failed.ensures.puts.1
      (flat_map-split (λ p. p.now) c.args.pieces.now c.loop-piece.piece-index _ c.loop-piece-test.true),
)

pub loop-piece-preserved : goal.loop-piece-preserved
loop-piece-preserved g c = record {
  later = search rules;
  so_far = told_more-after _ _ _ _ _ _ c.loop-piece.invariant.so_far c.in_default.ensures.puts
      (flat_map-take (λ p. p.now) c.args.pieces.now c.loop-piece.piece-index _ c.loop-piece-test.true);
}
