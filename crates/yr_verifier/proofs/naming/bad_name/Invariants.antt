use Rattle.std.proofs.Common.{◌≡◌, ℕ, ◌<◌, true}
use Rattle.yr_image.specs.Views.{image_of}
use Rattle.yr_verifier.specs.Named.{is_named}
use Rattle.yr_verifier.proofs.naming.bad_name.Given as goal

abbrev pub invariant-loop-k : goal.invariant-loop-k
invariant-loop-k l = (j : ℕ) → j < l.k → is_named (image_of l.view) l.section j ≡ true
