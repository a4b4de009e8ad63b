use Rattle.yr_lexer.proofs.OneLemmas.{one-answer}
use Rattle.yr_lexer.proofs.laws.one_answer.Goals as goal

pub returns : goal.returns
returns c = one-answer
