use Rattle.std.proofs.Common.{◌≡◌, ◌-◌, length}
use Rattle.yr_image.specs.Views.{image_of}
use Rattle.yr_verifier.specs.Windows.{AreDone}
use Rattle.yr_verifier.proofs.repeating.repeated_of_many.Given as goal

abbrev pub invariant-loop-from : goal.invariant-loop-from
invariant-loop-from l = record {
  done : AreDone (image_of l.view) l.from l.bound l.end;
  room : length l.table ≡ 196608;
}

abbrev pub decreases-loop-from : goal.decreases-loop-from
decreases-loop-from l = l.end - l.from
