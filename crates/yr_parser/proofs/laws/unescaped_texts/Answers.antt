use Rattle.yr_parser.proofs.TokenLemmas.{unescaped-is}
use Rattle.yr_parser.proofs.laws.unescaped_texts.Goals as goal

pub returns : goal.returns
returns c = unescaped-is
