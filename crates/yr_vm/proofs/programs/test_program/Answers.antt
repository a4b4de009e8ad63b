use Rattle.std.proofs.Common.{◌≡◌, sym, ap, ◌∙◌}
use Rattle.std.specs.Option.{option_map}
use Rattle.yr_values.specs.Values.{shown}
use Rattle.yr_image.specs.Views.{image_of}
use Rattle.yr_machine.specs.Budget.{moves_count}
use Rattle.yr_vm.proofs.ProgramLemmas.{cost-fits}
use Rattle.yr_vm.proofs.programs.test_program.Goals as goal

pub returns-in-Some-clause-most_cost : goal.returns-in-Some-clause-most_cost
returns-in-Some-clause-most_cost g c x v e le =
    let w = shown c.one.result.now in
    cost-fits (moves_count (image_of c.args.image.now) c.args.c) c.accepts-found.new.steps c.args.steps.now x v w c.in-Some.text.now
    (sym c.one.ensures.operand ∙ e) le (sym c.in-Some.ensures) c.accepts-found.ensures.most_cost
