use Rattle.std.proofs.Common.{◌<◌, ℕ, length}
use Rattle.yr_image.specs.Views.{image_of}
use Rattle.yr_search.specs.Skips.{LeadsOn}
use Rattle.yr_search.proofs.stepping.step.Given as goal

abbrev pub invariant-asking : goal.invariant-asking
invariant-asking g l = record {
  inside : l.at < length (image_of l.scene.view.now).nodes;
  comes : (x : ℕ) → LeadsOn (image_of l.scene.view.now) l.at l.byte x → LeadsOn (image_of l.scene.view.now) l.node l.byte x;
}

abbrev pub decreases-asking : goal.decreases-asking
decreases-asking g l = l.at
