use Rattle.std.proofs.Common.{◌≡◌, ◌∷◌, ◌<◌, length, map, sym, ap, ◌∙◌, arith}
use Rattle.std.proofs.lemmas.List.{length-map}
use Rattle.yr_values.specs.Values.{shown}
use Rattle.yr_machine.specs.Machine.{OpenLoop}
use Rattle.yr_vm.specs.declared.open_loop.OpenLoop as kept
use Rattle.yr_vm.specs.Turns.{present_shown, left_shown}
use Rattle.yr_vm.specs.OpenLoops.{loop_shown, loops_shown}
use Rattle.yr_vm.proofs.StackLemmas.{top-length, top-pushed}
use Rattle.yr_vm.proofs.LoopLemmas.{listed}
use Rattle.yr_vm.proofs.loops.Loops.open_list.Goals as goal

pub returns : goal.returns
returns c lists =
    let s = c.args.self.now in
    let l = c.begin_list.new.self in
    let e = c.begin_list.ensures in
    let high = top-length (λ (k : kept.OpenLoop). present_shown k.present) l s.open s.len (omega arith) in (
      present_shown l.present,
      left_shown lists l.items l.left,
      sym (e.turns lists),
      top-pushed (loop_shown lists) l s.open s.len l (omega (arith, high, c.requires.few))
          ∙ ap (λ (x : OpenLoop). x ∷ loops_shown lists s)
          (listed lists l c.args.place c.args.end c.args.quantifier (map shown c.args.values.now) 0 c.args.kept (e.turns lists) e.place e.end e.quantifier
          (e.total ∙ sym (length-map c.args.values.now shown)) e.held e.kept),
    )
