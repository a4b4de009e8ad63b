-- The rules on jumps, over the items of a hex string.
use Rattle.std.specs.Prelude.{◌≡◌, ℕ, ◌≤◌, ◌⊎◌, Bool, true, false, ◌||◌, Option, Some, None}
use Rattle.yr_hex.specs.Items.{Item, Items, Branches, Byte, Jump, Group, last, more, only, or}

-- the last number that a jump has: outside brackets it may have none, inside brackets it is at most 200
abbrev pub IsBounded : (inside : Bool) → Option ℕ → Type 0
IsBounded false most = Unit {0}
IsBounded true None = ⊥
IsBounded true (Some most) = most ≤ 200

-- a last number is at most 65,535, and the first is not above it
abbrev pub IsOrdered : ℕ → Option ℕ → Type 0
IsOrdered least None = Unit {0}
IsOrdered least (Some most) = (most ≤ 65535) × (least ≤ most)

-- a jump may have these numbers
abbrev pub IsAllowed : (inside : Bool) → ℕ → Option ℕ → Type 0
IsAllowed inside least most = (least ≤ 65535) × IsOrdered least most × IsBounded inside most

abbrev mutual
  -- the item has a jump that breaks a rule and has so many bytes left: it stands first or last in its list, or it may not have its numbers
  pub IsBad : (inside first ending : Bool) → Item → ℕ → Type 0
  IsBad inside first ending (Byte negated high low) left = ⊥
  IsBad inside first ending (Jump at least most) left = (left ≡ at) × (((first || ending) ≡ true) ⊎ ¬ IsAllowed inside least most)
  IsBad inside first ending (Group branches) left = HasBadBranch branches left

  -- one of the items has; `first` says that none stands before them
  pub HasBad : (inside first : Bool) → Items → ℕ → Type 0
  HasBad inside first (last i) left = IsBad inside first true i left
  HasBad inside first (more i is) left = IsBad inside first false i left ⊎ HasBad inside false is left

  -- one of the branches has
  pub HasBadBranch : Branches → ℕ → Type 0
  HasBadBranch (only is) left = HasBad true true is left
  HasBadBranch (or is bs) left = HasBad true true is left ⊎ HasBadBranch bs left

-- the hex string has a jump that breaks a rule, with so many bytes left at its `[`
abbrev pub HasBadJump : Items → ℕ → Type 0
HasBadJump is left = HasBad false true is left
