-- The comparisons: of two numbers, of two flags, and of two texts by their bytes.
use Rattle.std.specs.Prelude.{ℕ, Bool, true, false, not, List, int_lt}
use Rattle.std.specs.Ordering.{int_eq, nat_cmp, is_lt}
use Rattle.std.specs.Cmp.Lexicographic.{slice_cmp}
use Rattle.std.specs.Str.{bytes_eq}
use Rattle.yr_values.specs.Values.{Value, Undefined, Number, Flag, Text}
use Rattle.yr_values.specs.Operators.{contrary_of}

-- a text stands before another: at the first place where their bytes differ it has the lesser byte, or it ends there
abbrev pub precedes : List ℕ → List ℕ → Bool
precedes s t = is_lt (slice_cmp nat_cmp s t)

abbrev pub flag_eq : Bool → Bool → Bool
flag_eq true b = b
flag_eq false b = not b

-- `<`, of two numbers or two texts
abbrev pub less_of : Value → Value → Value
less_of (Number x) (Number y) = Flag (int_lt x y)
less_of (Text s) (Text t) = Flag (precedes s t)
less_of v w = Undefined

-- `>`, `<=` and `>=`
abbrev pub greater_of : Value → Value → Value
greater_of v w = less_of w v

abbrev pub at_most_of : Value → Value → Value
at_most_of v w = contrary_of (less_of w v)

abbrev pub at_least_of : Value → Value → Value
at_least_of v w = contrary_of (less_of v w)

-- `==`, of two values of one kind
abbrev pub equal_of : Value → Value → Value
equal_of (Number x) (Number y) = Flag (int_eq x y)
equal_of (Flag x) (Flag y) = Flag (flag_eq x y)
equal_of (Text s) (Text t) = Flag (bytes_eq s t)
equal_of v w = Undefined

-- `!=`
abbrev pub unequal_of : Value → Value → Value
unequal_of v w = contrary_of (equal_of v w)
