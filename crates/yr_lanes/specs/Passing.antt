-- Places that are passed, up to the first that stops.
use Rattle.std.specs.Prelude.{ℕ, ◌≡◌, ◌<◌, ◌≤◌, Bool, true, false}

-- all places from `from` on and before `to` are passed
abbrev pub Passes : (ℕ → Bool) → ℕ → ℕ → Type 0
Passes passes from to = (k : ℕ) → from ≤ k → k < to → passes k ≡ true

-- the least place from `from` on that is not passed, else the end
pub record IsFirstStop (passes : ℕ → Bool) (from end place : ℕ) : Type 0 where
  pub low : from ≤ place
  pub high : place ≤ end
  pub passed : Passes passes from place
  pub stopped : place < end → passes place ≡ false
