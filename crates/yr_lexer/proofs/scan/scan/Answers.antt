use Rattle.yr_lexer.proofs.TokenLemmas.{token-is}
use Rattle.yr_lexer.proofs.scan.scan.Goals as goal

pub returns-else-name_length-gt-NAME_LIMIT : goal.returns-else-name_length-gt-NAME_LIMIT
returns-else-name_length-gt-NAME_LIMIT c = token-is _ _ _ _ _ c.requires.some c.in_ok-kind-in-len1-up.ensures c.name_length.ensures c.if-name_length-gt-NAME_LIMIT.false
