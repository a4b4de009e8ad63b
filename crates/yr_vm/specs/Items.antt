-- Values that a list of a loop may have.
use Rattle.std.specs.Prelude.{ℕ, List, [], ◌∷◌}
use Rattle.yr_values.specs.Values.{Value, Undefined, Number, Flag, Text}

-- a number, or undefined
abbrev pub IsItem : Value → Type 0
IsItem Undefined = Unit {0}
IsItem (Number n) = Unit {0}
IsItem (Flag b) = ⊥
IsItem (Text t) = ⊥

abbrev pub AreItems : List Value → Type 0
AreItems [] = Unit {0}
AreItems (v ∷ values) = IsItem v × AreItems values
