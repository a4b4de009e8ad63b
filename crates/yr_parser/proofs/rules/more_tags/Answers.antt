use Rattle.std.proofs.Common.{rules}
use Rattle.yr_syntax.specs.Declaration.{bytes_of}
use Rattle.yr_parser.specs.Ruling.{next_word}
use Rattle.yr_parser.proofs.ManyLemmas.{many-vec}
use Rattle.yr_parser.proofs.rules.more_tags.Goals as goal

pub returns : goal.returns
returns c = many-vec bytes_of next_word _ (λ old new r t. search rules) c.many.result c.many.ensures
