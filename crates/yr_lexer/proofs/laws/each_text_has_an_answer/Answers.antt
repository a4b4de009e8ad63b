use Rattle.yr_lexer.proofs.TotalLemmas.{some-lexing}
use Rattle.yr_lexer.proofs.laws.each_text_has_an_answer.Goals as goal

pub returns : goal.returns
returns c = some-lexing
