use Rattle.yr_image.specs.Views.{image_of}
use Rattle.yr_verifier.specs.Blocks.{AreAtMost}
use Rattle.yr_verifier.proofs.members.greatest.Given as goal

abbrev pub invariant-loop-k : goal.invariant-loop-k
invariant-loop-k l = AreAtMost (image_of l.view).lists l.most l.from l.k
