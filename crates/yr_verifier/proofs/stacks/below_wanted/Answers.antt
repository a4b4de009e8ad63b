use Rattle.std.proofs.Common.{sym, ap, ◌∙◌, [], ◌∷◌, reverse, arith, cond}
use Rattle.yr_base.specs.declared.value.Kind.TheVariants as kind
use Rattle.yr_machine.specs.declared.block.Want.TheVariants as want
use Rattle.yr_machine.specs.CodeWalk.{take_kinds}
use Rattle.yr_verifier.specs.Effects.{copies}
use Rattle.yr_verifier.proofs.StackLemmas.{take_number}
use Rattle.yr_verifier.proofs.stacks.below_wanted.Goals as goal

pub returns-then-wants-clause-left : goal.returns-then-wants-clause-left
returns-then-wants-clause-left c =
    let kinds = c.args.kinds.now in
    let more = c.below_copies-then-wants in
    let one = want.Of kind.Number ∷ [] in
    take_number kinds _ c.in-Some.height (grind arith) c.in-Some.ensures.small more.result more.ensures.small (more.ensures.left [])
    ∙ c.in-Some.ensures.left one ∙ ap (λ b. take_kinds (copies c.args.wants.want c.args.wants.count (cond b one [])) (reverse kinds)) (sym c.if-wants.true)
