-- Of which kind the results of operators are, and that undefined gives undefined.
use Rattle.std.proofs.Common.{◌≡◌, ℕ, Bool, true, false, List, Option, None, Some, refl}
use Rattle.std.specs.Prelude.{ℤ, pos, negsuc, int_div, int_rem, if◌then◌else◌}
use Rattle.std.specs.Ordering.{int_eq}
use Rattle.yr_base.specs.declared.value.Kind.{Kind}
use Rattle.yr_base.specs.declared.value.Kind.TheVariants as kind
use Rattle.yr_values.specs.Values.{Value, Undefined, Number, Flag, Text}
use Rattle.yr_values.specs.Modules.{Suits}
use Rattle.yr_values.specs.Operators.{of_one, on_number, on_numbers, on_texts, contrary_of}
use Rattle.yr_values.specs.Numbers.{quotient, remainder, left_shift, right_shift, in_64_bits}
use Rattle.yr_values.specs.Comparisons.{less_of, equal_of}

pub of_one-suits : {A : Type 0} (k : Kind) (f : A → Value) → ((x : A) → Suits (Some k) (f x)) → (o : Option A) → Suits (Some k) (of_one f o)
of_one-suits k f h None = tt
of_one-suits k f h (Some x) = h x

pub on_number-suits : (k : Kind) (f : ℤ → Value) → ((x : ℤ) → Suits (Some k) (f x)) → (v : Value) → Suits (Some k) (on_number f v)
on_number-suits k f h (Number x) = h x
on_number-suits k f h v = tt

pub on_numbers-suits : (k : Kind) (f : ℤ → ℤ → Value) → ((x y : ℤ) → Suits (Some k) (f x y)) → (v w : Value) → Suits (Some k) (on_numbers f v w)
on_numbers-suits k f h (Number x) (Number y) = h x y
on_numbers-suits k f h v w = tt

pub on_texts-suits : (test : List ℕ → List ℕ → Bool) (v w : Value) → Suits (Some kind.Flag) (on_texts test v w)
on_texts-suits test (Text s) (Text t) = tt
on_texts-suits test v w = tt

-- undefined in one case, and a number in the other
either-suits : (b : Bool) (n : ℤ) → Suits (Some kind.Number) (if b then Undefined else Number n)
either-suits true n = tt
either-suits false n = tt

pub quotient-suits : (x y : ℤ) → Suits (Some kind.Number) (quotient x y)
quotient-suits x y = either-suits (int_eq y (pos 0)) (in_64_bits (int_div x y))

pub remainder-suits : (x y : ℤ) → Suits (Some kind.Number) (remainder x y)
remainder-suits x y = either-suits (int_eq y (pos 0)) (int_rem x y)

pub left_shift-suits : (x y : ℤ) → Suits (Some kind.Number) (left_shift x y)
left_shift-suits x (pos k) = tt
left_shift-suits x (negsuc k) = tt

pub right_shift-suits : (x y : ℤ) → Suits (Some kind.Number) (right_shift x y)
right_shift-suits x (pos k) = tt
right_shift-suits x (negsuc k) = tt

pub contrary-suits : (v : Value) → Suits (Some kind.Flag) (contrary_of v)
contrary-suits Undefined = tt
contrary-suits (Number n) = tt
contrary-suits (Flag b) = tt
contrary-suits (Text t) = tt

pub less-suits : (v w : Value) → Suits (Some kind.Flag) (less_of v w)
less-suits (Number x) (Number y) = tt
less-suits (Text s) (Text t) = tt
less-suits v w = tt

pub equal-suits : (v w : Value) → Suits (Some kind.Flag) (equal_of v w)
equal-suits (Number x) (Number y) = tt
equal-suits (Flag x) (Flag y) = tt
equal-suits (Text s) (Text t) = tt
equal-suits v w = tt

-- an undefined operand
pub on_numbers-left : (f : ℤ → ℤ → Value) (v : Value) → on_numbers f Undefined v ≡ Undefined
on_numbers-left f v = refl

pub on_numbers-right : (f : ℤ → ℤ → Value) (v : Value) → on_numbers f v Undefined ≡ Undefined
on_numbers-right f (Number x) = refl
on_numbers-right f v = refl

pub on_texts-right : (test : List ℕ → List ℕ → Bool) (v : Value) → on_texts test v Undefined ≡ Undefined
on_texts-right test (Text t) = refl
on_texts-right test v = refl

pub less-right : (v : Value) → less_of v Undefined ≡ Undefined
less-right (Number x) = refl
less-right (Text t) = refl
less-right v = refl

pub equal-right : (v : Value) → equal_of v Undefined ≡ Undefined
equal-right (Number x) = refl
equal-right (Flag b) = refl
equal-right (Text t) = refl
equal-right v = refl
