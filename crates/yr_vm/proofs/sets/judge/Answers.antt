use Rattle.std.proofs.Common.{◌≡◌, ◌+◌, ◌∷◌, length, drop, sym, ap, ◌∙◌}
use Rattle.yr_values.specs.Values.{shown}
use Rattle.yr_machine.specs.Roles.{quantity, of_wants}
use Rattle.yr_vm.proofs.sets.judge.Goals as goal

pub returns : goal.returns
returns c context turns e =
    let stack = c.args.stack.now in
    let value = c.set_value-value.result in
    let taken : length (of_wants c.args.form (quantity c.args.kind)) ≡ c.places.result + c.quantity.result =
    c.places.ensures.count (quantity c.args.kind) ∙ ap (λ n. c.places.result + n) (sym c.quantity.ensures.count) in
    c.put.ensures
    ∙ ap (λ n. shown value ∷ drop n stack) (sym taken)
    ∙ ap (λ v. v ∷ drop (length (of_wants c.args.form (quantity c.args.kind))) stack) (c.set_value-value.ensures context turns e)
