use Rattle.std.proofs.Common.{ap, sym, ◌∙◌, subst}
use Rattle.yr_image.specs.Views.{image_of}
use Rattle.yr_machine.specs.CodeWalk.{code_fault}
use Rattle.yr_verifier.specs.Rows.{rows_shown}
use Rattle.yr_verifier.specs.Blocks.{AreMost}
use Rattle.yr_verifier.proofs.CodeLemmas.{code_found}
use Rattle.yr_verifier.proofs.code.bad_place.Goals as goal

pub code_fault-requires : goal.code_fault-requires
code_fault-requires c = subst (λ i. AreMost i c.args.lists.now) (sym c.of-code.ensures.same) c.requires.most

pub returns : goal.returns
returns c =
    let code = c.of-code.result in
    let image = image_of c.args.view.now in
    let row = c.rule-row.result in
    code_found image c.args.rule row c.code_fault.result c.rule-row.ensures
    (c.code_fault.ensures ∙ ap (λ i. code_fault i code.rule (rows_shown code)) c.of-code.ensures.same ∙ ap (λ r. code_fault image r (rows_shown code)) c.of-code.ensures.number
    ∙ ap (code_fault image c.args.rule) c.of-code.ensures.shown)
