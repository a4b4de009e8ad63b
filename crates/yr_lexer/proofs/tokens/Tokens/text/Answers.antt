use Rattle.yr_lexer.proofs.SourceLemmas.{spelled-at}
use Rattle.yr_lexer.proofs.tokens.Tokens.text.Goals as goal

pub returns-clause-spelled : goal.returns-clause-spelled
returns-clause-spelled c t at = spelled-at _ _ t _ c.bytes.ensures.lies at c.bytes.ensures.text
