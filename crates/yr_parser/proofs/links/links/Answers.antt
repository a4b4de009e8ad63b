use Rattle.std.proofs.Common.{rules}
use Rattle.yr_syntax.specs.Condition.{link_of}
use Rattle.yr_parser.specs.Reading.{operand_at, next_link}
use Rattle.yr_parser.proofs.ManyLemmas.{many-vec}
use Rattle.yr_parser.proofs.links.links.Goals as goal

pub returns : goal.returns
returns g c = many-vec link_of (next_link c.args.level (operand_at c.args.depth c.args.level)) _ (λ old new r t. search rules) c.many.result c.many.ensures
