use Rattle.std.proofs.Common.{rules}
use Rattle.yr_syntax.specs.Condition.{tree_of}
use Rattle.yr_parser.specs.Reading.{cond_at, next_item}
use Rattle.yr_parser.proofs.ManyLemmas.{many-vec}
use Rattle.yr_parser.proofs.grammar.Grammar.more_items.Goals as goal

pub returns : goal.returns
returns g c = many-vec tree_of (next_item (cond_at c.args.self.now.depth)) _ (λ old new r t. search rules) c.many.result c.many.ensures
