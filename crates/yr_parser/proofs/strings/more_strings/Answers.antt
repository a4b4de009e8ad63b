use Rattle.std.proofs.Common.{rules}
use Rattle.yr_syntax.specs.Declaration.{string_of}
use Rattle.yr_parser.specs.Ruling.{next_string}
use Rattle.yr_parser.specs.Spelling.{places_of}
use Rattle.yr_parser.proofs.ManyLemmas.{many-vec}
use Rattle.yr_parser.proofs.strings.more_strings.Goals as goal

pub returns : goal.returns
returns c = many-vec string_of (next_string (places_of c.args.all.now)) _ (λ old new r t. search rules) c.many.result c.many.ensures
