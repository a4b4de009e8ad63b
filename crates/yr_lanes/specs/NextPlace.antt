-- The next place in a file whose byte is in a set.
use Rattle.std.specs.Prelude.{ℕ, ◌<◌, ◌≤◌, List, length, slice_index}

-- the least place from `from` on whose byte is in the set, else the length
pub record IsNextPlace (IsIn : ℕ → Type 0) (file : List ℕ) (from place : ℕ) : Type 0 where
  pub low : from ≤ place
  pub high : place ≤ length file
  pub passed : (k : ℕ) → from ≤ k → k < place → ¬ IsIn (slice_index file k)
  pub found : place < length file → IsIn (slice_index file place)
