-- One part of a path.
use Rattle.std.specs.Prelude.{◌≡◌, ℕ, List, [], length}
use Rattle.yr_syntax.specs.Condition.{OneStep, Name, Index, Call, items_of}
use Rattle.yr_conditions.specs.Meanings.{Around, Scope, Meaning, Wrong, meaning_of, then_name, then_index, then_call, count_of}

-- what a path leads to with one more part behind it
abbrev pub step_meaning : OneStep → Meaning → Meaning
step_meaning (Name w) m = then_name m w
step_meaning (Index c) m = then_index m
step_meaning (Call arguments) m = then_call m (count_of (items_of arguments))

-- what the first part leads to
abbrev pub start_meaning : Around → OneStep → List Scope → Meaning
start_meaning around (Name w) scopes = meaning_of around w scopes
start_meaning around (Index c) scopes = Wrong
start_meaning around (Call arguments) scopes = Wrong
