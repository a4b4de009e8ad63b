use Rattle.std.proofs.Common.{◌≡◌, ℕ, ◌<◌, ◌+◌, ◌*◌, length, get_or}
use Rattle.yr_image.specs.Views.{image_of}
use Rattle.yr_verifier.specs.Blocks.{AreAtMost}
use Rattle.yr_verifier.proofs.lists.Lists.of.Given as goal

abbrev pub invariant-loop-b : goal.invariant-loop-b
invariant-loop-b l = record {
  room : length l.most ≡ 32768;
  each : (b : ℕ) → b < l.b → AreAtMost (image_of l.view).lists (get_or l.most b 0) (b * l.size) (b * l.size + l.size);
}
