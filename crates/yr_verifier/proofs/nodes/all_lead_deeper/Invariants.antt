use Rattle.std.proofs.Common.{ℕ, ◌<◌, ◌+◌, ◌≡◌, Some}
use Rattle.std.specs.Prelude.{slice_get}
use Rattle.yr_rows.specs.declared.nodes.EdgeRow.{EdgeRow}
use Rattle.yr_image.specs.Views.{image_of}
use Rattle.yr_verifier.specs.Nodes.{LeadsDeeper}
use Rattle.yr_verifier.proofs.nodes.all_lead_deeper.Given as goal

abbrev pub invariant-loop-k : goal.invariant-loop-k
invariant-loop-k l = (j : ℕ) → j < l.k → (e : EdgeRow) → slice_get (image_of l.view).edges (l.first + j) ≡ Some e → LeadsDeeper (image_of l.view) l.depth e
