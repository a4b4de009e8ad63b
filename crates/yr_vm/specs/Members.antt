-- The members of a set that stand in list rows.
use Rattle.std.specs.Prelude.{ℕ, ◌+◌, ◌==◌, ◌&&◌, ◌||◌, nat_le, Bool, List, length, take, drop}
use Rattle.yr_machine.specs.Named.{all_below}

abbrev pub members_in : (lists : List ℕ) → (first rows : ℕ) → List ℕ
members_in lists first rows = take rows (drop first lists)

-- the list rows are there, and the members are below the bound; of no rows none is missing
abbrev pub are_there : (lists : List ℕ) → (first rows bound : ℕ) → Bool
are_there lists first rows bound =
    (rows == 0) || (nat_le (first + rows) (length lists) && all_below bound (members_in lists first rows))
