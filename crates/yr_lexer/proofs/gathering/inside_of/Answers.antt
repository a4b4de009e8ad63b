use Rattle.yr_lexer.proofs.PathLemmas.{inside-good}
use Rattle.yr_lexer.proofs.gathering.inside_of.Goals as goal

pub returns-clause-good : goal.returns-clause-good
returns-clause-good c = inside-good c.args.text.now c.args.token c.requires.lies c.requires.text
