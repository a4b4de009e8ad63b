use Rattle.std.proofs.Common.{arith}
use Rattle.yr_lexer.proofs.CallerLemmas.{lexes-few, lexes-lie}
use Rattle.yr_lexer.proofs.Whole.{gap-within, starts, place-some, refuses, falls, one-more, is-whole}
use Rattle.yr_lexer.proofs.lexing.lex.Goals as goal

pub slice_bounds-line_after-count : goal.slice_bounds-line_after-count
slice_bounds-line_after-count c = gap-within _ _ c.past_gap-rest.ensures

pub tokens-init : goal.tokens-init
tokens-init c = rw c.new-tokens.ensures.items (starts _ _ _ c.past_gap-rest.ensures c.line_after-line.ensures)

pub returns-in-Err-clause-answer : goal.returns-in-Err-clause-answer
returns-in-Err-clause-answer c = refuses _ _ _ _ _ _ _ c.tokens.invariant (place-some _ _ c.is_empty.ensures c.tokens-test.true) c.in-Err.ensures c.fault_on.ensures

pub slice_bounds-line_after-count-in-tokens : goal.slice_bounds-line_after-count-in-tokens
slice_bounds-line_after-count-in-tokens c = let h = falls _ _ _ _ _ c.in-Ok.ensures c.past_gap-next.ensures in omega arith

pub tokens-smaller : goal.tokens-smaller
tokens-smaller c = let h = falls _ _ _ _ _ c.in-Ok.ensures c.past_gap-next.ensures in omega arith

pub tokens-preserved : goal.tokens-preserved
tokens-preserved c =
    rw c.in_ok-push.ensures.items (one-more _ _ _ _ _ _ _ _ _ _ _ c.tokens.invariant (place-some _ _ c.is_empty.ensures c.tokens-test.true) c.in-Ok.ensures c.past_gap-next.ensures
    c.token_at.ensures c.line_after-line-in-tokens.ensures c.is_equals-after_equals.ensures)

pub returns-clause-answer : goal.returns-clause-answer
returns-clause-answer c = is-whole _ _ _ _ _ _ c.tokens.invariant c.is_empty.ensures c.tokens-test.false

pub returns-clause-few : goal.returns-clause-few
returns-clause-few c = lexes-few _ _ (is-whole _ _ _ _ _ _ c.tokens.invariant c.is_empty.ensures c.tokens-test.false)

pub returns-clause-lies : goal.returns-clause-lies
returns-clause-lies c = lexes-lie _ _ (omega (arith, c.requires)) (is-whole _ _ _ _ _ _ c.tokens.invariant c.is_empty.ensures c.tokens-test.false)
