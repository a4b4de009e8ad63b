-- What a certified image keeps beside its bytes.
use Rattle.std.specs.Prelude.{◌≡◌, List, length}
use Rattle.yr_image.specs.Image.{Image}
use Rattle.yr_cert.specs.Words.{edge, own}
use Rattle.yr_cert.specs.Shape.{IsTrie}
use Rattle.yr_cert.specs.Tries.{AreNoted, SaysHome}
use Rattle.yr_cert.specs.declared.home.Home.{Home}

-- the image has the shape of a trie, and for each split its word is noted
pub record Keeps (image : Image) (homes : List Home) : Type 0 where
  pub shape : IsTrie image
  pub long : length homes ≡ length image.splits
  pub each : AreNoted (SaysHome (edge image) (own image)) image.outputs (length image.outputs) homes
