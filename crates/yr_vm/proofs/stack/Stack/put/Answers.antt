use Rattle.std.proofs.Common.{◌≡◌, ◌≤◌, length, sym, ap, ◌∙◌, arith}
use Rattle.yr_base.specs.declared.value.Value.TheVariants as lent
use Rattle.yr_values.specs.Values.{shown}
use Rattle.yr_vm.proofs.StackLemmas.{top-length, top-put}
use Rattle.yr_vm.proofs.stack.Stack.put.Goals as goal

pub returns : goal.returns
returns c =
    let s = c.self.inside in
    let high : length c.args.self.now ≡ s.len =
    ap length (sym c.self.view_is) ∙ top-length shown lent.Undefined s.items s.len (omega arith) in
    rw (← c.self.view_is) (top-put shown lent.Undefined s.items c.args.taken s.len c.args.value (omega (arith, high)) (omega arith) (omega (arith, high)))
