use Rattle.std.proofs.Common.{◌≡◌, ◌+◌, ◌*◌, ◌<◌, ℕ, length, Some}
use Rattle.std.specs.Prelude.{slice_get}
use Rattle.yr_image.specs.Views.{image_of}
use Rattle.yr_search.specs.Skips.{LeadsOn}
use Rattle.yr_search.proofs.stepping.first_rows.Given as goal

abbrev pub invariant-loop-place : goal.invariant-loop-place
invariant-loop-place l = record {
  long : length l.rows.items ≡ l.place;
  leads : (n b x : ℕ) → b < 256 → slice_get l.rows.items (n * 256 + b) ≡ Some x → LeadsOn (image_of l.scene.view.now) n b x;
}
