-- What an instruction does to the stack that takes so many values and gives one.
use Rattle.std.specs.Prelude.{ℕ, List, ◌∷◌, take, drop}
use Rattle.yr_values.specs.Values.{Value}

-- the values on top are replaced by what an operation gives for them
abbrev pub given : ℕ → (List Value → Value) → List Value → List Value
given n operation stack = operation (take n stack) ∷ drop n stack
