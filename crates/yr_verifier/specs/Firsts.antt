-- The first check that fails, found one after another.
use Rattle.std.specs.Prelude.{◌≡◌, ℕ, ◌<◌, ◌⊎◌, List, Option, Some, None, Result, Ok, Err}
use Rattle.yr_image.specs.declared.fault.ImageFault.{ImageFault}
use Rattle.yr_machine.specs.Wellformed.{Passes, check_of, first_number, IsFirstFault}

-- the first number of which something does not hold, None where it holds of all
abbrev pub Finds : (ℕ → Type 0) → Option ℕ → Type 0
Finds P None = (k : ℕ) → P k
Finds P (Some k) = (P k → ⊥) × ((j : ℕ) → j < k → P j)

-- the bytes pass all checks before a check, and that one where its first number is below a number
abbrev pub Reaches : List ℕ → (check number : ℕ) → Type 0
Reaches bytes check number = (fault : ImageFault)
    → ((check_of fault < check) ⊎ ((check_of fault ≡ check) × (first_number fault < number))) → Passes bytes fault

-- the bytes pass all checks before one, or the fault is their first
abbrev pub Checked : List ℕ → (check : ℕ) → Result (Unit {0}) ImageFault → Type 0
Checked bytes check (Ok u) = Reaches bytes check 0
Checked bytes check (Err fault) = IsFirstFault bytes fault
