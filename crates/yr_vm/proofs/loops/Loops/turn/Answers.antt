use Rattle.std.proofs.Common.{◌≡◌, ◌<◌, ◌≤◌, ◌-◌, length, get_or, sym, ap, ◌∙◌, arith}
use Rattle.yr_rows.specs.Nodes.{outputs_of}
use Rattle.yr_answer.specs.Turns.{Turn}
use Rattle.yr_vm.specs.declared.open_loop.OpenLoop as kept
use Rattle.yr_vm.specs.Turns.{present_shown}
use Rattle.yr_vm.proofs.StackLemmas.{top-length}
use Rattle.yr_vm.proofs.LoopLemmas.{turn-again}
use Rattle.yr_vm.proofs.loops.Loops.turn.Goals as goal

pub returns-in-Again : goal.returns-in-Again
returns-in-Again c below =
    let s = c.args.self.now in
    let old = c.index-open-self.result in
    let high = top-length (λ (l : kept.OpenLoop). present_shown l.present) old s.open s.len (omega arith) in
    turn-again (outputs_of c.args.lists.now) s.open s.len old c.turn-turned.new.self c.args.answer c.turn-turned.result c.in-Again.place
    (omega (arith, high, c.requires)) (omega arith) c.in-Again.is c.turn-turned.ensures below
