use Rattle.yr_machine.proofs.OccursByTrial.{occurs, occurs-decides}
use Rattle.yr_machine.proofs.laws.some_programs_are_known.Goals as goal

pub returns : goal.returns
returns c = λ image. (occurs image, occurs-decides image)
