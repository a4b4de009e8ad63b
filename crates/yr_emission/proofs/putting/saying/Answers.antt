use Rattle.std.proofs.Common.{ap, ◌∙◌}
use Rattle.yr_image.specs.Instructions.{instruction_of}
use Rattle.yr_image.proofs.InstructionRowLemmas.{row_says}
use Rattle.yr_emission.proofs.putting.saying.Goals as goal

pub returns : goal.returns
returns c = λ sayable. ap instruction_of c.row_of.ensures.row ∙ row_says c.args.instruction c.row_of.ensures.fits c.requires sayable
