use Rattle.std.proofs.Common.{◌≡◌, ◌/◌, ◌%◌, ℕ, false, length, Some}
use Rattle.std.specs.Prelude.{slice_get}
use Rattle.yr_image.specs.Views.{image_of}
use Rattle.yr_search.specs.Skips.{IsPassed}
use Rattle.yr_search.proofs.skipping.pair_table.Given as goal

abbrev pub invariant-loop-pair : goal.invariant-loop-pair
invariant-loop-pair l = record {
  long : length l.table.items ≡ l.pair;
  passed : (j : ℕ) → slice_get l.table.items j ≡ Some false → IsPassed (image_of l.scene.view.now) (j / 256) (j % 256);
}
