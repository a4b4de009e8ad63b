use Rattle.yr_image.specs.Views.{image_of}
use Rattle.yr_vm.proofs.ProgramLemmas.{occurs-known}
use Rattle.yr_vm.proofs.programs.accepts.Goals as goal

pub returns-clause-value : goal.returns-clause-value
returns-clause-value g c context same knows =
    occurs-known context (image_of c.args.image.now) c.args.c c.args.text.now c.program.result c.occurs.result same knows c.program.ensures
    c.requires.program c.occurs.ensures.occurs
