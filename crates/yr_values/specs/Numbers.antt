-- The operators on numbers. A number has 64 signed bits in two's complement.
use Rattle.std.specs.Prelude.{ℤ, pos, negsuc, neg_ℤ, ◌+ℤ◌, ◌-ℤ◌, ◌*ℤ◌, ◌^◌, int_div, int_rem, nat_lt, if◌then◌else◌}
use Rattle.std.specs.Int.{w64, int_wrap, int_bit_and, int_bit_or, int_bit_xor, int_bit_not, int_shr}
use Rattle.std.specs.Ordering.{int_eq}
use Rattle.yr_values.specs.Values.{Value, Undefined, Number}
use Rattle.yr_values.specs.Operators.{on_number, on_numbers}

-- a whole number brought back: the number of 64 signed bits that differs from it by a multiple of 2^64
abbrev pub in_64_bits : ℤ → ℤ
in_64_bits z = int_wrap w64 z

-- sums, differences, products and negations in whole numbers, brought back
abbrev pub sum_of : Value → Value → Value
sum_of = on_numbers (λ x y. Number (in_64_bits (x +ℤ y)))

abbrev pub difference_of : Value → Value → Value
difference_of = on_numbers (λ x y. Number (in_64_bits (x -ℤ y)))

abbrev pub product_of : Value → Value → Value
product_of = on_numbers (λ x y. Number (in_64_bits (x *ℤ y)))

abbrev pub negation_of : Value → Value
negation_of = on_number (λ x. Number (in_64_bits (neg_ℤ x)))

-- the quotient rounded towards zero, brought back; undefined by zero
abbrev pub quotient : ℤ → ℤ → Value
quotient x y = if int_eq y (pos 0) then Undefined else Number (in_64_bits (int_div x y))

abbrev pub quotient_of : Value → Value → Value
quotient_of = on_numbers quotient

-- what the quotient leaves, with the dividend's sign; undefined by zero
abbrev pub remainder : ℤ → ℤ → Value
remainder x y = if int_eq y (pos 0) then Undefined else Number (int_rem x y)

abbrev pub remainder_of : Value → Value → Value
remainder_of = on_numbers remainder

-- `~`, `&`, `|` and `^`, bit by bit
abbrev pub complement_of : Value → Value
complement_of = on_number (λ x. Number (int_bit_not w64 x))

abbrev pub bit_and_of : Value → Value → Value
bit_and_of = on_numbers (λ x y. Number (int_bit_and w64 x y))

abbrev pub bit_or_of : Value → Value → Value
bit_or_of = on_numbers (λ x y. Number (int_bit_or w64 x y))

abbrev pub bit_xor_of : Value → Value → Value
bit_xor_of = on_numbers (λ x y. Number (int_bit_xor w64 x y))

-- to the left by k below 64 bits: the product with 2^k, brought back; by more 0, by a negative number undefined
abbrev pub left_shift : ℤ → ℤ → Value
left_shift x (pos k) = Number (if nat_lt k 64 then in_64_bits (x *ℤ pos (2 ^ k)) else pos 0)
left_shift x (negsuc k) = Undefined

abbrev pub left_shift_of : Value → Value → Value
left_shift_of = on_numbers left_shift

-- to the right by k below 64 bits: the quotient by 2^k rounded down, so that the sign stays; by more 0, by a negative number undefined
abbrev pub right_shift : ℤ → ℤ → Value
right_shift x (pos k) = Number (if nat_lt k 64 then int_shr x k else pos 0)
right_shift x (negsuc k) = Undefined

abbrev pub right_shift_of : Value → Value → Value
right_shift_of = on_numbers right_shift
