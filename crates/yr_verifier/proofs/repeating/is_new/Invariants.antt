use Rattle.std.proofs.Common.{◌≢◌, ℕ, ◌<◌}
use Rattle.yr_image.specs.Views.{image_of}
use Rattle.yr_verifier.specs.Names.{name_at}
use Rattle.yr_verifier.proofs.repeating.is_new.Given as goal

abbrev pub invariant-loop-j : goal.invariant-loop-j
invariant-loop-j l = (i : ℕ) → i < l.j → name_at (image_of l.view) i ≢ name_at (image_of l.view) l.k
