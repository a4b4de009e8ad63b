-- What a call that may run out of memory gives, against what a definition gives.
use Rattle.std.specs.Prelude.{◌≡◌, Option, Some, None, Result, Ok, Err}

-- a refusal is the definition's; want of memory, which stands for no refusal, says nothing
abbrev pub Refuses : {F Y : Type 0} → Option F → Result Y F → Type 0
Refuses None definition = Unit {0}
Refuses (Some fault) definition = definition ≡ Err fault

-- Ok carries what the definition gives, seen by `view`. An error is the definition's refusal that `fault_of` finds in it.
abbrev pub Gives : {X E F Y : Type 0} → (X → Y) → (E → Option F) → Result X E → Result Y F → Type 0
Gives view fault_of (Ok x) definition = definition ≡ Ok (view x)
Gives view fault_of (Err e) definition = Refuses (fault_of e) definition
