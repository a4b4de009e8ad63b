use Rattle.std.proofs.Common.{◌∙◌, arith}
use Rattle.yr_image.specs.Views.{image_of}
use Rattle.yr_verifier.proofs.RangeLemmas.{range_place, range_length}
use Rattle.yr_verifier.proofs.rule_code.Code.row.Goals as goal

pub overflow_add-self : goal.overflow_add-self
overflow_add-self c =
    let code = c.args.self.now in
    omega (arith, c.requires, code.small, range_length code.first code.rows (image_of code.view).code code.inside)

pub code-requires : goal.code-requires
code-requires c =
    let code = c.args.self.now in
    omega (arith, c.requires, code.inside, range_length code.first code.rows (image_of code.view).code code.inside)

pub returns : goal.returns
returns c =
    let code = c.args.self.now in
    range_place c.args.place code.first code.rows (image_of code.view).code (omega (arith, c.requires, range_length code.first code.rows (image_of code.view).code code.inside)) ∙ c.code.ensures
