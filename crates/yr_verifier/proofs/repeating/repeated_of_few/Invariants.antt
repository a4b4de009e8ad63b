use Rattle.std.proofs.Common.{ℕ, ◌<◌}
use Rattle.yr_image.specs.Views.{image_of}
use Rattle.yr_verifier.specs.Names.{IsNew}
use Rattle.yr_verifier.proofs.repeating.repeated_of_few.Given as goal

abbrev pub invariant-loop-k : goal.invariant-loop-k
invariant-loop-k l = (j : ℕ) → j < l.k → IsNew (image_of l.view) j
