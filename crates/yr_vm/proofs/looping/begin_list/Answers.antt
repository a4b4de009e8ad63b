use Rattle.std.proofs.Common.{◌≡◌, ◌+◌, ◌∷◌, [], ℕ, List, length, map, take, drop, reverse, Some, sym, ap, ◌∙◌, subst}
use Rattle.yr_values.specs.Values.{Value, shown}
use Rattle.yr_answer.specs.Turns.{item_turns}
use Rattle.yr_machine.specs.Machine.{begin}
use Rattle.yr_machine.specs.Operations.{quantifier_of}
use Rattle.yr_machine.specs.Roles.{quantity}
use Rattle.yr_vm.specs.OpenLoops.{loops_shown, presents_shown}
use Rattle.yr_vm.specs.States.{MayBegin}
use Rattle.yr_vm.proofs.LoopLemmas.{listed-begins}
use Rattle.yr_vm.proofs.looping.begin_list.Goals as goal

pub returns-in-Some : goal.returns-in-Some
returns-in-Some c lists =
    let s = c.args.state.now in
    let items = c.args.items in
    let n = length (presents_shown s.loops) in
    let q = c.in-Some.quantifier in
    let values = map shown c.top-values.result.now in
    let below = drop (items + length (quantity c.args.kind)) s.stack in
    let asked : quantifier_of c.args.kind (take (length (quantity c.args.kind)) (drop items s.stack)) ≡ Some q = sym c.quantifier.ensures ∙ c.in-Some.is in
    let o = c.open_list.ensures lists in
    let may = subst (λ p. MayBegin p (Some (item_turns (reverse (take items s.stack)))) n (length below)) asked c.requires.goes in
    let known : MayBegin (Some q) (Some (item_turns values)) n (length below) =
    subst (λ vs. MayBegin (Some q) (Some (item_turns vs)) n (length below)) (sym c.top-values.ensures) may in
    listed-begins s.loops s.place c.args.end q values (items + c.quantity.result) o.0 o.1 lists (loops_shown lists c.open_list.new.self) s.stack below o.2 o.3 known
    ∙ ap (λ k. begin (Some q) (Some (item_turns values)) s.place c.args.end (items + k) s.stack below (loops_shown lists s.loops)) c.quantity.ensures.count
    ∙ ap (λ vs. begin (Some q) (Some (item_turns vs)) s.place c.args.end (items + length (quantity c.args.kind)) s.stack below (loops_shown lists s.loops)) c.top-values.ensures
    ∙ ap (λ p. begin p (Some (item_turns (reverse (take items s.stack)))) s.place c.args.end (items + length (quantity c.args.kind)) s.stack below (loops_shown lists s.loops)) (sym asked)
