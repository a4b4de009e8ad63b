use Rattle.std.proofs.Common.{sym, ap, ◌∙◌, arith, length}
use Rattle.yr_verifier.proofs.StackLemmas.{stack_height}
use Rattle.yr_verifier.proofs.stacks.Kinds.height.Goals as goal

pub returns-clause-value : goal.returns-clause-value
returns-clause-value c =
    sym (stack_height c.self.inside.height c.self.inside.items (omega (arith, c.self.invariant))) ∙ ap length c.self.view_is
