use Rattle.yr_regex.proofs.AnswerLemmas.{one-answer}
use Rattle.yr_regex.proofs.laws.one_answer.Goals as goal

pub returns : goal.returns
returns c = one-answer
