use Rattle.std.proofs.Common.{◌≡◌, ◌<◌, ◌≤◌, ◌∷◌, [], length, take, drop, sym, ap, ◌∙◌, arith}
use Rattle.yr_values.specs.Values.{shown}
use Rattle.yr_vm.proofs.StackLemmas.{top-length, top-under}
use Rattle.yr_vm.proofs.stack.Stack.below.Goals as goal

pub returns : goal.returns
returns c =
    let s = c.self.inside in
    let blank = c.index-items-self.result in
    let high : length c.args.self.now ≡ s.len =
    ap length (sym c.self.view_is) ∙ top-length shown blank s.items s.len (omega arith) in
    rw (← c.self.view_is) (top-under shown blank s.items s.len c.args.depth (omega (arith, high)) (omega arith))
    ∙ ap (λ v. shown v ∷ []) (sym c.index-items-self.is)
