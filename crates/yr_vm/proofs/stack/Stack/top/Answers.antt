use Rattle.std.proofs.Common.{◌≡◌, ◌≤◌, length, sym, ap, ◌∙◌, arith}
use Rattle.yr_base.specs.declared.value.Value.TheVariants as lent
use Rattle.yr_values.specs.Values.{shown}
use Rattle.yr_vm.proofs.StackLemmas.{top-length, top-front}
use Rattle.yr_vm.proofs.stack.Stack.top.Goals as goal

pub returns : goal.returns
returns c =
    let s = c.self.inside in
    let high : length c.args.self.now ≡ s.len =
    ap length (sym c.self.view_is) ∙ top-length shown lent.Undefined s.items s.len (omega arith) in
    rw (← c.self.view_is) (top-front shown lent.Undefined s.items c.args.count s.len (omega (arith, high, c.requires)) (omega arith))
