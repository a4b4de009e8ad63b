-- What a module's field takes and gives.
use Rattle.std.specs.Prelude.{ℕ, ℤ, pos, Bool, List, if◌then◌else◌}
use Rattle.yr_values.specs.Values.{Value}
use Rattle.yr_values.specs.Operators.{on_number}
use Rattle.yr_machine.specs.Operations.{on_one}

-- an index, where it has one
abbrev pub field_takes : (indexed : Bool) → ℕ
field_takes indexed = if indexed then 1 else 0

abbrev pub field_value : (field_of : ℕ → ℤ → Value) → (indexed : Bool) → (id : ℕ) → List Value → Value
field_value field_of indexed id operands = if indexed then on_one (on_number (field_of id)) operands else field_of id (pos 0)
