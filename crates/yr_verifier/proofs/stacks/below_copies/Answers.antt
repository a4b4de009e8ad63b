use Rattle.std.proofs.Common.{sym, ap, ◌∙◌, ◌+◌, ◌-◌, get_or, reverse, take, arith}
use Rattle.yr_base.specs.declared.value.Kind.{Kind}
use Rattle.yr_base.specs.declared.value.Kind.TheVariants as kind
use Rattle.yr_machine.specs.CodeWalk.{take_kinds}
use Rattle.yr_verifier.specs.Effects.{copies}
use Rattle.yr_verifier.proofs.StackLemmas.{take_next, take_other, take_empty, stack_top}
use Rattle.yr_verifier.proofs.stacks.below_copies.Goals as goal

pub returns-then-height-eq0-clause-left : goal.returns-then-height-eq0-clause-left
returns-then-height-eq0-clause-left c = λ below.
    let n = c.args.count - c.loop.counter in
    sym (take_empty c.args.want n (n - 1) below (omega (arith, c.loop-test.true)))
    ∙ ap (λ h. take_kinds (copies c.args.want n below) (reverse (take h c.args.kinds.now))) (sym c.if-height-eq0.true) ∙ c.loop.invariant.left below

pub returns-then-not-is_wanted-clause-left : goal.returns-then-not-is_wanted-clause-left
returns-then-not-is_wanted-clause-left c = λ below.
    let n = c.args.count - c.loop.counter in
    let kinds = c.args.kinds.now in
    let h = c.loop.height in
    let k : Kind = get_or kinds (h - 1) kind.Number in
    let other = sym c.is_wanted.ensures ∙ c.if-not-is_wanted.true in
    sym (take_other c.args.want k n (n - 1) below (reverse (take (h - 1) kinds)) (omega (arith, c.loop-test.true)) other)
    ∙ ap (take_kinds (copies c.args.want n below)) (sym (stack_top h kinds kind.Number (omega (arith, c.if-height-eq0.false)) c.loop.invariant.low)) ∙ c.loop.invariant.left below

pub loop-preserved : goal.loop-preserved
loop-preserved c = record {
  low = omega (arith, c.loop.invariant.low);
  left = λ below.
      let n = c.args.count - c.loop.counter in
      let kinds = c.args.kinds.now in
      let h = c.loop.height in
      let k : Kind = get_or kinds (h - 1) kind.Number in
      let same = sym c.is_wanted.ensures ∙ c.if-not-is_wanted.false in
      sym (take_next c.args.want k n (c.args.count - (c.loop.counter + 1)) below (reverse (take (h - 1) kinds)) (omega (arith, c.loop-test.true)) same)
      ∙ ap (take_kinds (copies c.args.want n below)) (sym (stack_top h kinds kind.Number (omega (arith, c.if-height-eq0.false)) c.loop.invariant.low)) ∙ c.loop.invariant.left below;
}
