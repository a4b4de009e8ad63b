use Rattle.std.proofs.Common.{map, rules}
use Rattle.yr_syntax.specs.Condition.{item_of}
use Rattle.yr_name_tables.proofs.MeantLemmas.{met-within}
use Rattle.yr_name_tables.proofs.numbered.Numbered.numbers_meant.Goals as goal

pub returns-then-items-len-clause-within : goal.returns-then-items-len-clause-within
returns-then-items-len-clause-within c = met-within (map item_of c.args.items.now) c.args.self.now c.numbers_ordered.result (search rules)

pub returns-else-len-clause-within : goal.returns-else-len-clause-within
returns-else-len-clause-within c = met-within (map item_of c.args.items.now) c.args.self.now c.numbers_walked.result c.numbers_walked.ensures
