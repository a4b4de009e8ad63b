use Rattle.yr_parser.proofs.ExampleLemmas as lemmas
use Rattle.yr_parser.proofs.laws.small_conditions.Goals as goal

pub returns : goal.returns
returns c = lemmas.small_conditions
