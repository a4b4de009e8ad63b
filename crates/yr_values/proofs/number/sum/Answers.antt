use Rattle.std.proofs.Common.{ap, sym, ◌∙◌, rules}
use Rattle.std.specs.Prelude.{◌+ℤ◌, FitsSigned}
use Rattle.std.specs.Int.{w64}
use Rattle.std.proofs.lemmas.Int.{wrapping_add_is}
use Rattle.yr_values.specs.Values.{Number}
use Rattle.yr_values.specs.Operators.{of_two}
use Rattle.yr_values.specs.Numbers.{in_64_bits}
use Rattle.yr_values.proofs.number.sum.Goals as goal

pub returns-in-Some : goal.returns-in-Some
returns-in-Some c =
    let x : FitsSigned w64 c.in-Some.x = search rules in
    let y : FitsSigned w64 c.in-Some.y = search rules in
    ap Number (wrapping_add_is w64 c.in-Some.x c.in-Some.y x y)
    ∙ ap (of_two (λ x y. Number (in_64_bits (x +ℤ y)))) (sym c.in-Some.is ∙ c.numbers.ensures)
