use Rattle.yr_conditions.proofs.WalkLemmas.{start-low}
use Rattle.yr_conditions.specs.UseViews.{shown}
use Rattle.yr_conditions.proofs.node_of_condition.word_start.Goals as goal

pub returns-clause-known : goal.returns-clause-known
returns-clause-known c = start-low c.args.around.now c.args.word.now c.args.scopes.now (shown c.word_meaning.result) c.word_meaning.ensures
