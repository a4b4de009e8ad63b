use Rattle.std.proofs.Common.{◌≡◌, ◌≤◌, ◌*◌, ◌-◌}
use Rattle.yr_image.specs.Views.{image_of}
use Rattle.yr_verifier.specs.Blocks.{AreBelow}
use Rattle.yr_verifier.proofs.members.all_below.Given as goal

abbrev pub invariant-loop-k : goal.invariant-loop-k
invariant-loop-k l = record {
  start : l.start ≡ l.b * l.size;
  low : l.first ≤ l.k;
  high : l.k ≤ l.end;
  below : AreBelow (image_of l.view).lists l.bound l.first l.k;
}

abbrev pub decreases-loop-k : goal.decreases-loop-k
decreases-loop-k l = l.end - l.k
