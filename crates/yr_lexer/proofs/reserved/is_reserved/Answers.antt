use Rattle.yr_base.specs.Words.{reserved_words}
use Rattle.yr_lexer.proofs.ListLemmas.{any-contains}
use Rattle.yr_lexer.proofs.reserved.is_reserved.Goals as goal

pub returns : goal.returns
returns c = any-contains c.reserved_words.result.now reserved_words c.args.word.now c.is_among.result c.is_among.ensures c.reserved_words.ensures
