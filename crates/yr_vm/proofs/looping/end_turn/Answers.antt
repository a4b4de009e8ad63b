use Rattle.std.proofs.Common.{◌≡◌, ◌∷◌, [], List, drop, sym, ap, ◌∙◌, Bool}
use Rattle.yr_rows.specs.Nodes.{outputs_of}
use Rattle.yr_values.specs.Values.{Value, shown}
use Rattle.yr_machine.specs.Machine.{going, machine}
use Rattle.yr_vm.specs.OpenLoops.{loops_shown, turn_on, after_turn}
use Rattle.yr_vm.proofs.OperandLemmas.{turn-outcome}
use Rattle.yr_vm.proofs.looping.end_turn.Goals as goal

pub returns-in-Again : goal.returns-in-Again
returns-in-Again c =
    let s = c.args.state.now in
    let lists = outputs_of c.args.lists.now in
    let loops = loops_shown lists s.loops in
    let later = loops_shown lists c.turn.new.self in
    sym (turn-outcome c.args.c s.stack loops (shown c.one.result.now) c.one.ensures.operand c.requires
    ∙ ap (λ (answer : Bool). turn_on answer (drop 1 s.stack) loops) (sym c.holds-answer.ensures)
    ∙ c.turn.ensures (drop 1 s.stack)
    ∙ ap (λ t. after_turn t (drop 1 s.stack) later) c.in-Again.is
    ∙ ap (λ (below : List Value). going (machine c.in-Again.place below later)) (sym c.shorten.ensures))
