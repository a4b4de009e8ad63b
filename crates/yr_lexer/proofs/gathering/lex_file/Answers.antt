use Rattle.std.proofs.Common.{ℕ, List, sym, subst}
use Rattle.yr_lexer.specs.Tokens.{ExplainsLex}
use Rattle.yr_lexer.proofs.PathLemmas.{lexed-here}
use Rattle.yr_lexer.proofs.gathering.lex_file.Goals as goal

pub returns-in-Ok-clause-tokens : goal.returns-in-Ok-clause-tokens
returns-in-Ok-clause-tokens c = rw (sym c.as_slice.ensures.value) (c.in-Ok.ensures.few, c.in-Ok.ensures.lies)

pub returns-in-Ok-clause-lexed : goal.returns-in-Ok-clause-lexed
returns-in-Ok-clause-lexed c = λ lexed is. lexed-here lexed is c.args.file.now.text.items c.as_slice.result.now c.in-Ok.tokens.items c.as_slice.ensures.value c.in-Ok.ensures.answer

pub returns-in-Err-clause-lexed : goal.returns-in-Err-clause-lexed
returns-in-Err-clause-lexed c = λ lexed is.
    c.refusal_of.ensures.lexed lexed is c.args.file.now.text.items (subst (λ (t : List ℕ). ExplainsLex t c.in-Err.fault) c.as_slice.ensures.value c.in-Err.ensures.answer)
