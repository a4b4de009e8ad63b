use Rattle.std.proofs.Common.{sym, ap, ◌∙◌, Some, take}
use Rattle.yr_machine.specs.CodeWalk.{take_kinds}
use Rattle.yr_verifier.specs.Stacks.{down_to}
use Rattle.yr_verifier.specs.Effects.{wants_of}
use Rattle.yr_verifier.proofs.StackLemmas.{stack_front}
use Rattle.yr_verifier.proofs.stacks.Kinds.below_wants.Goals as goal

pub returns-in-Some-clause-left : goal.returns-in-Some-clause-left
returns-in-Some-clause-left c =
    let part = take c.self.inside.height c.self.inside.items in
    let h = c.in-Some.height in
    ap (λ l. Some (down_to h l)) (sym c.self.view_is) ∙ ap Some (sym (stack_front h part c.in-Some.ensures.small))
    ∙ c.in-Some.ensures.left ∙ ap (take_kinds (wants_of c.args.wants)) c.self.view_is
