use Rattle.std.proofs.Common.{arith}
use Rattle.yr_lexer.specs.Gaps.{piece}
use Rattle.yr_lexer.proofs.GapLemmas.{piece-some, gap-ends, Piece-shorter}
use Rattle.yr_lexer.proofs.gap.past_gap.Goals as goal

pub loop-more-smaller : goal.loop-more-smaller
loop-more-smaller c = let h = Piece-shorter (piece-some _ _ c.in-Some.ensures) in omega arith

pub loop-more-preserved : goal.loop-more-preserved
loop-more-preserved c r g = c.loop-more.invariant r (piece (piece-some _ _ c.in-Some.ensures) g)

pub returns : goal.returns
returns c = c.loop-more.invariant _ (gap-ends _ c.in_default.ensures)
