use Rattle.yr_lexer.proofs.TotalLemmas.{some-unescaping}
use Rattle.yr_lexer.proofs.laws.each_text_has_a_meaning.Goals as goal

pub returns : goal.returns
returns c = some-unescaping
