-- The values of conditions as plain data: none, a number of 64 signed bits, a flag, or a text of bytes.
use Rattle.std.specs.Prelude.{ℕ, ℤ, pos, Bool, true, false, not, List, [], ◌∷◌, take, Option, None, Some}
use Rattle.std.specs.Ordering.{int_eq}
use Rattle.yr_base.specs.declared.value.Value as lent_value
use Rattle.yr_base.specs.declared.value.Value.TheVariants as lent
use Rattle.yr_base.specs.declared.value.Kind.{Kind}
use Rattle.yr_base.specs.declared.value.Kind.TheVariants as kind

pub data Value : Type 0 where
  Undefined : Value
  Number : ℤ → Value
  Flag : Bool → Value
  Text : List ℕ → Value

-- the value that a program's value stands for: a short text is the first `len` of its bytes
abbrev pub shown : lent_value.Value → Value
shown lent.Undefined = Undefined
shown (lent.Number n) = Number n
shown (lent.Flag b) = Flag b
shown (lent.Text t) = Text t.now
shown (lent.Short s) = Text (take s.len s.bytes)

-- the kind of a value that is there
abbrev pub kind_of : Value → Option Kind
kind_of Undefined = None
kind_of (Number n) = Some kind.Number
kind_of (Flag b) = Some kind.Flag
kind_of (Text t) = Some kind.Text

abbrev pub is_defined : Value → Bool
is_defined Undefined = false
is_defined (Number n) = true
is_defined (Flag b) = true
is_defined (Text t) = true

abbrev pub is_empty : List ℕ → Bool
is_empty [] = true
is_empty (b ∷ bs) = false

-- as a condition: a number that is not 0, a true flag, a text that is not empty
abbrev pub holds : Value → Bool
holds Undefined = false
holds (Number n) = not (int_eq n (pos 0))
holds (Flag b) = b
holds (Text t) = not (is_empty t)
