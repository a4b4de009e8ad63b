use Rattle.std.proofs.Common.{◌≡◌, ◌+◌, ◌<◌, ◌∷◌, List, length, drop, Some, sym, ap, ◌∙◌, subst}
use Rattle.yr_values.specs.Values.{Value}
use Rattle.yr_machine.specs.Machine.{OpenLoop, going, machine, begin}
use Rattle.yr_vm.specs.declared.beginning.Begun.TheVariants as begun
use Rattle.yr_vm.specs.OpenLoops.{loops_shown, presents_shown, begun_by, begun_shown, IsCounted}
use Rattle.yr_vm.specs.States.{CanBegin}
use Rattle.yr_vm.proofs.LoopLemmas.{begin-some}
use Rattle.yr_vm.proofs.looping.begin.Goals as goal

pub returns-in-Some-Some : goal.returns-in-Some-Some
returns-in-Some-Some c lists counted =
    let s = c.args.state.now in
    let a = c.in-Some-Some in
    let below = drop c.args.taken s.stack in
    let loops = loops_shown lists s.loops in
    let room = subst (λ q. CanBegin q c.args.begun (length (presents_shown s.loops)) (length below)) a.is-0 c.requires.goes in
    let few : length (presents_shown s.loops) < 4 = subst (λ b. CanBegin (Some a.quantifier) b (length (presents_shown s.loops)) (length below)) a.is-1 room in
    ap (λ (stack : List Value). going (machine (s.place + 1) stack (loops_shown lists c.open.new.self))) c.shorten.ensures
    ∙ ap (λ (later : List OpenLoop). going (machine (s.place + 1) below later)) (c.open.ensures lists)
    ∙ begin-some lists s.loops s.place c.args.end a.quantifier a.turns below below few (subst (IsCounted lists) a.is-1 counted)
    ∙ ap (λ q. begin q (begun_shown lists (begun.Some a.turns)) s.place c.args.end 0 below below loops) (sym a.is-0)
    ∙ ap (λ b. begin c.args.quantifier (begun_shown lists b) s.place c.args.end 0 below below loops) (sym a.is-1)
