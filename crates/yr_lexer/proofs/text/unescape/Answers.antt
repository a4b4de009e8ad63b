use Rattle.std.proofs.Common.{List, ℕ, append_assoc, append-nil, subst, arith}
use Rattle.yr_lexer.specs.Texts.{unit, Unescapes}
use Rattle.yr_lexer.proofs.EscapeLemmas.{unit-some, Stands-shorter, unescapes-next, unescapes-all}
use Rattle.yr_lexer.proofs.text.unescape.Goals as goal

pub loop-b-init : goal.loop-b-init
loop-b-init c = record { rest = c.requires; whole = λ more u. rw c.new-bytes.ensures.items u }

pub loop-b-smaller : goal.loop-b-smaller
loop-b-smaller c = let h = Stands-shorter (unit-some _ _ _ c.in-Some.ensures) in omega arith

pub loop-b-preserved : goal.loop-b-preserved
loop-b-preserved c =
    let n = unescapes-next c.loop-b.invariant.rest.1 _ _ c.in-Some.ensures in
    record {
      rest = (n.0, n.2);
      whole = λ more u. rw (c.in_ok-push.ensures.items, append_assoc) (c.loop-b.invariant.whole _ (unit (unit-some _ _ _ c.in-Some.ensures) u));
    }

pub returns : goal.returns
returns c = record { value = subst (λ (x : List ℕ). Unescapes c.args.text.now x) (append-nil c.loop-b.bytes.items) (c.loop-b.invariant.whole _ (unescapes-all _ _ c.in_default.ensures c.loop-b.invariant.rest.1)) }
