-- Images that passed every check.
use Rattle.std.specs.Prelude.{ℕ, List}
use Rattle.yr_machine.specs.Wellformed.{IsWellformed}
use Rattle.yr_machine.specs.declared.verified_image.VerifiedImage.{VerifiedImage}

-- the bytes of the image
abbrev pub bytes_of : VerifiedImage → List ℕ
bytes_of image = image.bytes.now

-- they are wellformed, since nothing else is a verified image
abbrev pub are_wellformed : (image : VerifiedImage) → IsWellformed (bytes_of image)
are_wellformed image = image.wellformed
