use Rattle.std.proofs.Common.{◌≡◌, ℕ, ◌<◌, Some, false}
use Rattle.std.specs.Prelude.{bytes_eq, slice_get}
use Rattle.yr_checking.specs.declared.space.Space.{Space}
use Rattle.yr_checking.proofs.space.space_place.Given as goal

abbrev pub invariant-loop-place : goal.invariant-loop-place
invariant-loop-place l = (j : ℕ) (s : Space) → j < l.place → slice_get l.spaces j ≡ Some s → bytes_eq l.name s.name ≡ false
