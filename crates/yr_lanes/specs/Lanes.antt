-- What a vector of 16 bytes holds.
use Rattle.std.specs.Prelude.{ℕ, ◌≡◌, ◌<◌, List, length, slice_index}

-- 16 lanes, of which lane k holds f k
pub record HasLanes (v : List ℕ) (f : ℕ → ℕ) : Type 0 where
  pub long : length v ≡ 16
  pub each : (k : ℕ) → k < 16 → slice_index v k ≡ f k

-- the first lanes are 0
abbrev pub IsClear : List ℕ → ℕ → Type 0
IsClear v count = (k : ℕ) → k < count → slice_index v k ≡ 0
