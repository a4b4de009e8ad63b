use Rattle.std.proofs.Common.{◌≡◌, ℕ, ◌<◌, true}
use Rattle.yr_image.specs.Reading.{zeros_in}
use Rattle.yr_image.specs.Views.{image_of, shown_bytes}
use Rattle.yr_machine.specs.Rows.{index_passes}
use Rattle.yr_verifier.proofs.rows.bad_row.Given as goal

abbrev pub invariant-loop-k : goal.invariant-loop-k
invariant-loop-k l = (j : ℕ) → j < l.k → index_passes (image_of l.view) (zeros_in (shown_bytes l.view)) l.section j ≡ true
