use Rattle.std.proofs.Common.{◌≡◌, ℕ, [], false, length, Some}
use Rattle.std.specs.Prelude.{slice_get}
use Rattle.yr_image.specs.Views.{image_of}
use Rattle.yr_search.specs.Uppers.{upper}
use Rattle.yr_search.proofs.skipping.output_flags.Given as goal

abbrev pub invariant-loop-node : goal.invariant-loop-node
invariant-loop-node l = record {
  long : length l.flags.items ≡ l.node;
  none : (j : ℕ) → slice_get l.flags.items j ≡ Some false → upper (image_of l.scene.view.now) j ≡ [];
}
