-- Greatest members of blocks of list rows.
use Rattle.std.specs.Prelude.{◌≡◌, ℕ, ◌+◌, ◌*◌, ◌<◌, ◌≤◌, List, Some, slice_get, slice_index}
use Rattle.yr_image.specs.Image.{Image}
use Rattle.yr_verifier.specs.declared.lists.Lists.{Lists}

-- no member from a row to another is above a number
abbrev pub AreAtMost : (members : List ℕ) (most from to : ℕ) → Type 0
AreAtMost members most from to = (k m : ℕ) → from ≤ k → k < to → slice_get members k ≡ Some m → m ≤ most

-- each member from a row to another is below a bound
abbrev pub AreBelow : (members : List ℕ) (bound from to : ℕ) → Type 0
AreBelow members bound from to = (k m : ℕ) → from ≤ k → k < to → slice_get members k ≡ Some m → m < bound

-- no member of a block is above the number of the block
abbrev pub AreMost : Image → Lists → Type 0
AreMost image lists = (b : ℕ) → b < lists.blocks → AreAtMost image.lists (slice_index lists.most b) (b * lists.size) (b * lists.size + lists.size)
