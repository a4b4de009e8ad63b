use Rattle.std.proofs.Common.{ℕ, ◌<◌, ◌+◌, ◌≡◌, Some}
use Rattle.std.specs.Prelude.{slice_get}
use Rattle.yr_rows.specs.declared.nodes.EdgeRow.{EdgeRow}
use Rattle.yr_image.specs.Views.{image_of}
use Rattle.yr_verifier.proofs.nodes.bytes_rise.Given as goal

abbrev pub invariant-loop-k : goal.invariant-loop-k
invariant-loop-k l = (i j : ℕ) (d e : EdgeRow) → i < j → j < l.k → slice_get (image_of l.view).edges (l.first + i) ≡ Some d
    → slice_get (image_of l.view).edges (l.first + j) ≡ Some e → d.byte < e.byte
