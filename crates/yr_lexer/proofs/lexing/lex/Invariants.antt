use Rattle.std.proofs.Common.{length}
use Rattle.yr_lexer.proofs.Whole.{FromGap}
use Rattle.yr_lexer.proofs.lexing.lex.Given as goal

abbrev pub invariant-tokens : goal.invariant-tokens
invariant-tokens l = FromGap l.fn.text l.tokens.items l.after_equals l.line l.rest

abbrev pub decreases-tokens : goal.decreases-tokens
decreases-tokens l = length l.rest
