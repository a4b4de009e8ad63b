use Rattle.yr_image.specs.Views.{image_of}
use Rattle.yr_verifier.specs.Tables.{Passes}
use Rattle.yr_verifier.proofs.table.find.Given as goal

abbrev pub invariant-loop-at : goal.invariant-loop-at
invariant-loop-at l = Passes (image_of l.view) l.table l.name l.slot l.at
