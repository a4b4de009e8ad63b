use Rattle.std.proofs.Common.{arith}
use Rattle.yr_lexer.proofs.HexLemmas.{step-end, step-on, step-stuck}
use Rattle.yr_lexer.proofs.hex.past_hex.Goals as goal

pub loop-is_end-init : goal.loop-is_end-init
loop-is_end-init c = record { on = λ r h. h; back = λ r h. h }

pub returns-then-is_end : goal.returns-then-is_end
returns-then-is_end c = c.loop-is_end.invariant.on _ (step-end _ _ _ c.in-Some.ensures c.if-is_end.true)

pub loop-is_end-smaller : goal.loop-is_end-smaller
loop-is_end-smaller c = let h = (step-on _ _ _ c.in-Some.ensures c.if-is_end.false).shorter in omega arith

pub loop-is_end-preserved : goal.loop-is_end-preserved
loop-is_end-preserved c =
    let s = step-on _ _ _ c.in-Some.ensures c.if-is_end.false in
    record { on = λ r h. c.loop-is_end.invariant.on r (s.on r h); back = λ r h. s.back r (c.loop-is_end.invariant.back r h) }

pub returns : goal.returns
returns c = λ r h. step-stuck _ c.in_default.ensures r (c.loop-is_end.invariant.back r h)
