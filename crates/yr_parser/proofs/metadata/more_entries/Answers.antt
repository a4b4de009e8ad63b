use Rattle.std.proofs.Common.{rules}
use Rattle.yr_syntax.specs.Declaration.{meta_of}
use Rattle.yr_parser.specs.Ruling.{next_meta}
use Rattle.yr_parser.proofs.ManyLemmas.{many-vec}
use Rattle.yr_parser.proofs.metadata.more_entries.Goals as goal

pub returns : goal.returns
returns c = many-vec meta_of next_meta _ (λ old new r t. search rules) c.many.result c.many.ensures
