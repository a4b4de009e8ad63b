use Rattle.yr_parser.specs.Spelling.{places_of, terminals_of}
use Rattle.yr_parser.proofs.AnswerLemmas.{answered}
use Rattle.yr_parser.proofs.answering.tokens_have_an_answer.Goals as goal

pub returns : goal.returns
returns c = (λ g. (answered (places_of g) (terminals_of g)).0, λ g. (answered (places_of g) (terminals_of g)).1)
