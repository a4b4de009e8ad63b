use Rattle.yr_machine.proofs.FirstFault.{answered}
use Rattle.yr_machine.proofs.laws.bytes_have_an_answer.Goals as goal

pub returns : goal.returns
returns c = (λ bytes. (answered bytes).0, λ bytes. (answered bytes).1)
