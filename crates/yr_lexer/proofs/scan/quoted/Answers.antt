use Rattle.std.proofs.Common.{refl, arith}
use Rattle.yr_lexer.proofs.TextBranch.{text-unclosed, text-bad, text-candidate, units-within}
use Rattle.yr_lexer.proofs.scan.quoted.Goals as goal

pub returns-in-None : goal.returns-in-None
returns-in-None c a = text-unclosed a _ c.in-None.ensures

pub overflow_sub-behind : goal.overflow_sub-behind
overflow_sub-behind c = let h = units-within _ _ c.in-Some.ensures in omega arith

pub slice_bounds-has_good_escapes-count : goal.slice_bounds-has_good_escapes-count
slice_bounds-has_good_escapes-count c = let h = units-within _ _ c.in-Some.ensures in omega arith

pub returns-then-has_good_escapes : goal.returns-then-has_good_escapes
returns-then-has_good_escapes c a = let g = c.has_good_escapes.ensures.good c.if-has_good_escapes.true in text-candidate a _ _ _ g.0 c.in-Some.ensures refl g.1

pub returns-else-has_good_escapes : goal.returns-else-has_good_escapes
returns-else-has_good_escapes c a = text-bad a _ _ _ c.in-Some.ensures refl (c.has_good_escapes.ensures.bad c.if-has_good_escapes.false)
