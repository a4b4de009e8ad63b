use Rattle.std.proofs.Common.{◌≡◌, ◌≤◌, length, sym, ap, ◌∙◌, arith}
use Rattle.yr_base.specs.declared.value.Value.TheVariants as lent
use Rattle.yr_values.specs.Values.{shown}
use Rattle.yr_vm.proofs.StackLemmas.{top, top-shorter}
use Rattle.yr_vm.proofs.stack.Stack.shorten.Goals as goal

pub returns : goal.returns
returns c =
    let s = c.self.inside in
    rw (← c.self.view_is) (ap (top shown lent.Undefined s.items) c.saturating_sub-self-inside.ensures ∙ top-shorter shown lent.Undefined s.items c.args.taken s.len (omega arith))
