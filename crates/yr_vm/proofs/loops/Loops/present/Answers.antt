use Rattle.std.proofs.Common.{◌≡◌, ◌<◌, ◌≤◌, length, get_or, Some, sym, ap, ◌∙◌, arith}
use Rattle.yr_vm.specs.declared.open_loop.OpenLoop as kept
use Rattle.yr_vm.specs.Turns.{present_shown}
use Rattle.yr_vm.proofs.StackLemmas.{top-length}
use Rattle.yr_vm.proofs.LoopLemmas.{turn-get}
use Rattle.yr_vm.proofs.loops.Loops.present.Goals as goal

pub returns : goal.returns
returns c =
    let s = c.args.self.now in
    let shows = λ (l : kept.OpenLoop). present_shown l.present in
    let blank = c.index-open-c.result in
    let high = top-length shows blank s.open s.len (omega arith) in
    turn-get shows blank s.open s.len c.args.c (omega (arith, high)) (omega arith)
