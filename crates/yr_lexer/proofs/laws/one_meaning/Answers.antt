use Rattle.yr_lexer.proofs.EscapeLemmas.{unescapes-one}
use Rattle.yr_lexer.proofs.laws.one_meaning.Goals as goal

pub returns : goal.returns
returns c = λ inside a b p q. unescapes-one p b q
