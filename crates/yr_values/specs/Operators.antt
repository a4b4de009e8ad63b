-- What all operators share: operands of the wrong kind, and undefined ones, give undefined; and the operators on any value.
use Rattle.std.specs.Prelude.{ℕ, ℤ, Bool, not, ◌&&◌, ◌||◌, List, Option, None, Some}
use Rattle.yr_values.specs.Values.{Value, Undefined, Number, Flag, Text, holds, is_defined}

-- the number or the text of a value, the numbers and the texts of two values, where that is what they are
abbrev pub number_in : Value → Option ℤ
number_in (Number n) = Some n
number_in v = None

abbrev pub numbers_in : Value → Value → Option (ℤ × ℤ)
numbers_in (Number x) (Number y) = Some (x, y)
numbers_in v w = None

abbrev pub text_in : Value → Option (List ℕ)
text_in (Text t) = Some t
text_in v = None

abbrev pub texts_in : Value → Value → Option (List ℕ × List ℕ)
texts_in (Text s) (Text t) = Some (s, t)
texts_in v w = None

-- undefined where there is no operand
abbrev pub of_one : {A : Type 0} → (A → Value) → Option A → Value
of_one f None = Undefined
of_one f (Some x) = f x

-- undefined where there are no two operands
abbrev pub of_two : {A : Type 0} → (A → A → Value) → Option (A × A) → Value
of_two f None = Undefined
of_two f (Some p) = f p.0 p.1

-- a number of a number, a value of two numbers, a flag of two texts
abbrev pub on_number : (ℤ → Value) → Value → Value
on_number f v = of_one f (number_in v)

abbrev pub on_numbers : (ℤ → ℤ → Value) → Value → Value → Value
on_numbers f v w = of_two f (numbers_in v w)

abbrev pub on_texts : (List ℕ → List ℕ → Bool) → Value → Value → Value
on_texts test v w = of_two (λ s t. Flag (test s t)) (texts_in v w)

-- `not`: undefined of what is undefined
abbrev pub contrary_of : Value → Value
contrary_of Undefined = Undefined
contrary_of (Number n) = Flag (not (holds (Number n)))
contrary_of (Flag b) = Flag (not b)
contrary_of (Text t) = Flag (not (holds (Text t)))

-- `defined`: never undefined
abbrev pub definedness_of : Value → Value
definedness_of v = Flag (is_defined v)

-- `and` and `or`: an undefined operand does not hold, and the result is never undefined
abbrev pub conjunction_of : Value → Value → Value
conjunction_of v w = Flag (holds v && holds w)

abbrev pub disjunction_of : Value → Value → Value
disjunction_of v w = Flag (holds v || holds w)
