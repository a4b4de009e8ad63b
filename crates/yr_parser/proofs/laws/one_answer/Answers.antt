use Rattle.yr_parser.proofs.Whole.{has_one_answer}
use Rattle.yr_parser.proofs.laws.one_answer.Goals as goal

pub returns : goal.returns
returns c = has_one_answer
