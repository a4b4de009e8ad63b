use Rattle.std.proofs.Common.{arith}
use Rattle.yr_lexer.specs.Texts.{unit}
use Rattle.yr_lexer.proofs.EscapeLemmas.{unit-some, Stands-shorter, unescapes-next, empty-good, rest-bad}
use Rattle.yr_lexer.proofs.text.has_good_escapes.Goals as goal

pub loop-more-init : goal.loop-more-init
loop-more-init c = record { good = λ bytes u. (bytes, u); bad = λ bytes u. (bytes, u) }

pub loop-more-smaller : goal.loop-more-smaller
loop-more-smaller c = let h = Stands-shorter (unit-some _ _ _ c.in-Some.ensures) in omega arith

pub loop-more-preserved : goal.loop-more-preserved
loop-more-preserved c = record {
  good = λ bytes u. c.loop-more.invariant.good _ (unit (unit-some _ _ _ c.in-Some.ensures) u);
  bad = λ all u. let h = c.loop-more.invariant.bad all u in let n = unescapes-next h.1 _ _ c.in-Some.ensures in (n.0, n.2);
}

pub returns-clause-good : goal.returns-clause-good
returns-clause-good c h = c.loop-more.invariant.good _ (empty-good _ _ c.is_empty.ensures h)

pub returns-clause-bad : goal.returns-clause-bad
returns-clause-bad c n all u = let h = c.loop-more.invariant.bad all u in rest-bad _ _ _ c.is_empty.ensures n c.in_default.ensures h.1
