use Rattle.std.proofs.Common.{ℕ, ◌<◌, ◌≤◌}
use Rattle.yr_image.specs.Views.{image_of}
use Rattle.yr_verifier.specs.Windows.{IsOther}
use Rattle.yr_verifier.proofs.windows.first_in.Given as goal

abbrev pub invariant-loop-k : goal.invariant-loop-k
invariant-loop-k l = (i : ℕ) → l.window.to ≤ i → i < l.k → IsOther (image_of l.view) l.window.from l.window.to i
