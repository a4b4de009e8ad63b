use Rattle.yr_search.proofs.NodeLemmas.{outputs_are, links_fall}
use Rattle.yr_search.proofs.FinalLemmas.{apart}
use Rattle.yr_image.specs.Reading.{image_in}
use Rattle.yr_search.proofs.laws.hits_of_node_0_are_apart.Goals as goal

pub returns-clause-outputs : goal.returns-clause-outputs
returns-clause-outputs c = λ bytes text n wellformed leads lt. outputs_are (image_in bytes) (links_fall bytes wellformed) n lt

pub returns-clause-count : goal.returns-clause-count
returns-clause-count c = λ bytes file fronts wellformed are. apart bytes wellformed file fronts are
