use Rattle.std.proofs.Common.{◌≡◌, ◌≤◌}
use Rattle.yr_image.specs.Views.{image_of}
use Rattle.yr_verifier.specs.Tables.{AreFree, Keeps}
use Rattle.yr_verifier.specs.Windows.{AreDistinct}
use Rattle.yr_verifier.proofs.windows.fill.Given as goal

abbrev pub invariant-loop-k : goal.invariant-loop-k
invariant-loop-k l = record {
  low : l.from ≤ l.k;
  keeps : Keeps (image_of l.view) l.key l.table l.from l.k;
  distinct : AreDistinct (image_of l.view) l.from l.k;
  free : l.k ≡ l.from → AreFree l.table;
}
