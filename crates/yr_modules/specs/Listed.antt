-- The rows of a module.
use Rattle.std.specs.Prelude.{ℕ, pos, List}
use Rattle.yr_base.specs.declared.value.Kind.TheVariants as kind
use Rattle.yr_values.specs.declared.names.ModuleEntry.TheVariants.{Constant, Field, Array, Call}
use Rattle.yr_values.specs.Names.{NamedRow}

-- a field that is a number
abbrev pub number : List ℕ → ℕ → NamedRow
number path id = record { path = path; entry = Field id kind.Number }

-- a field that is a text
abbrev pub text : List ℕ → ℕ → NamedRow
text path id = record { path = path; entry = Field id kind.Text }

-- an array, by the id of its number of entries
abbrev pub array : List ℕ → ℕ → NamedRow
array path count = record { path = path; entry = Array count }

-- a call that gives a text
abbrev pub text_call : List ℕ → ℕ → NamedRow
text_call path id = record { path = path; entry = Call id kind.Text }

-- a constant
abbrev pub constant : List ℕ → ℕ → NamedRow
constant path n = record { path = path; entry = Constant (pos n) }
