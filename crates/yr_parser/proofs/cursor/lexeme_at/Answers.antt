use Rattle.yr_parser.proofs.TokenLemmas.{lexeme-is}
use Rattle.yr_parser.proofs.cursor.lexeme_at.Goals as goal

pub returns-in-Some : goal.returns-in-Some
returns-in-Some c = lexeme-is c.args.tokens.now c.args.at c.in-Some.found _ _ c.in-Some.ensures.value c.spelling.ensures.text c.spelled.ensures
