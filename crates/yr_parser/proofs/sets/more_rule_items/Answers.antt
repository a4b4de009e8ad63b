use Rattle.std.proofs.Common.{rules}
use Rattle.yr_syntax.specs.Condition.{item_of}
use Rattle.yr_parser.specs.Reading.{next_rule_item}
use Rattle.yr_parser.proofs.ManyLemmas.{many-vec}
use Rattle.yr_parser.proofs.sets.more_rule_items.Goals as goal

pub returns : goal.returns
returns c = many-vec item_of next_rule_item _ (λ old new r t. search rules) c.many.result c.many.ensures
