-- What is kept for an image from file to file.
use Rattle.std.specs.Prelude.{ℕ, List}
use Rattle.yr_image.specs.Reading.{image_in}
use Rattle.yr_search.specs.declared.scratch.Scratch.{Scratch}
use Rattle.yr_hits.specs.Programs.{HasRoom}
use Rattle.yr_search.specs.Skips.{AreSkips}

-- the scratch was made for the image in these bytes
pub record IsScratchFor (bytes : List ℕ) (scratch : Scratch) : Type 0 where
  pub room : HasRoom (image_in bytes) scratch.marks.room
  pub skips : AreSkips (image_in bytes) scratch.skips
