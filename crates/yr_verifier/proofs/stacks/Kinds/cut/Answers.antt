use Rattle.std.proofs.Common.{sym, ap, ◌∙◌, arith, length}
use Rattle.yr_verifier.specs.Stacks.{down_to}
use Rattle.yr_verifier.proofs.StackLemmas.{stack_cut, stack_height}
use Rattle.yr_verifier.proofs.stacks.Kinds.cut.Goals as goal

pub returns : goal.returns
returns c =
    let items = c.self.inside.items in
    let most = c.self.inside.height in
    let tall = sym (stack_height most items (omega (arith, c.self.invariant))) ∙ ap length c.self.view_is in
    stack_cut c.args.height most items (omega (arith, c.requires, tall)) (omega (arith, c.self.invariant)) ∙ ap (down_to c.args.height) c.self.view_is
