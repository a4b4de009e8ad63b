use Rattle.yr_pattern.specs.Tree.{tree_of}
use Rattle.yr_program.specs.Programs.{program_moves, program_sets}
use Rattle.yr_splits.proofs.SideCostLemmas.{shape_put}
use Rattle.yr_splits.proofs.side.put_shape.Goals as goal

pub returns : goal.returns
returns c =
    let made = c.in_ok-program.ensures in
    shape_put c.args.draft.now c.put_program.new.self c.args.backwards (tree_of c.args.pattern.now) (program_moves c.in_ok-program.program) (program_sets c.in_ok-program.program)
    c.in_ok-number.number made.forwards made.backwards made.wellformed made.small made.few_sets c.in_ok-number.ensures.program c.in_ok-number.ensures.number
