-- Of which kind the values of a module are.
use Rattle.std.specs.Prelude.{◌≡◌, Option, None, Some}
use Rattle.yr_base.specs.declared.value.Kind.{Kind}
use Rattle.yr_base.specs.declared.value.Kind.TheVariants as kind
use Rattle.yr_values.specs.Values.{Value, Undefined, Number, Flag, Text}

-- a value is of this kind
abbrev pub IsOfKind : Kind → Value → Type 0
IsOfKind kind.Number (Number n) = Unit {0}
IsOfKind kind.Flag (Flag b) = Unit {0}
IsOfKind kind.Text (Text t) = Unit {0}
IsOfKind k v = ⊥

-- a value for a row: of the row's kind, or undefined, which is all that there is without a row
abbrev pub Suits : Option Kind → Value → Type 0
Suits None v = v ≡ Undefined
Suits (Some k) Undefined = Unit {0}
Suits (Some k) v = IsOfKind k v

-- a number or undefined, and a flag or undefined
abbrev pub SuitsNumber : Value → Type 0
SuitsNumber = Suits (Some kind.Number)

abbrev pub SuitsFlag : Value → Type 0
SuitsFlag = Suits (Some kind.Flag)
