use Rattle.std.proofs.Common.{rules}
use Rattle.yr_syntax.specs.Condition.{step_of}
use Rattle.yr_parser.specs.Reading.{cond_at, next_step}
use Rattle.yr_parser.proofs.ManyLemmas.{many-vec}
use Rattle.yr_parser.proofs.grammar.Grammar.more_steps.Goals as goal

pub returns : goal.returns
returns g c = many-vec step_of (next_step (cond_at c.args.self.now.depth)) _ (λ old new r t. search rules) c.many.result c.many.ensures
