use Rattle.std.proofs.Common.{ℕ, List}
use Rattle.yr_values.specs.Values.{Number}
use Rattle.yr_values.specs.Readers.{bytes_at}
use Rattle.yr_base.specs.declared.value.Kind.TheVariants as kind
use Rattle.yr_values.proofs.KindLemmas.{of_one-suits, on_number-suits, on_numbers-suits, quotient-suits, remainder-suits, left_shift-suits, right_shift-suits}
use Rattle.yr_values.proofs.laws.operators_give_numbers.Goals as goal

pub returns-clause-sums : goal.returns-clause-sums
returns-clause-sums c v w = (on_numbers-suits kind.Number _ (λ x y. tt) v w, on_numbers-suits kind.Number _ (λ x y. tt) v w)

pub returns-clause-products : goal.returns-clause-products
returns-clause-products c v w = (on_numbers-suits kind.Number _ (λ x y. tt) v w, on_number-suits kind.Number _ (λ x. tt) v)

pub returns-clause-quotients : goal.returns-clause-quotients
returns-clause-quotients c v w = (on_numbers-suits kind.Number _ quotient-suits v w, on_numbers-suits kind.Number _ remainder-suits v w)

pub returns-clause-bits : goal.returns-clause-bits
returns-clause-bits c v w = (
  on_number-suits kind.Number _ (λ x. tt) v,
  on_numbers-suits kind.Number _ (λ x y. tt) v w,
  on_numbers-suits kind.Number _ (λ x y. tt) v w,
  on_numbers-suits kind.Number _ (λ x y. tt) v w,
)

pub returns-clause-shifts : goal.returns-clause-shifts
returns-clause-shifts c v w = (on_numbers-suits kind.Number _ left_shift-suits v w, on_numbers-suits kind.Number _ right_shift-suits v w)

pub returns-clause-readers : goal.returns-clause-readers
returns-clause-readers c n number file v = of_one-suits kind.Number (λ (bytes : List ℕ). Number (number bytes)) (λ bytes. tt) (bytes_at n file v)
