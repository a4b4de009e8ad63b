-- The rows of a rule's code, read in place.
use Rattle.std.specs.Prelude.{List, take, drop}
use Rattle.yr_image.specs.declared.rows.CodeRow.{CodeRow}
use Rattle.yr_image.specs.Image.{Image}
use Rattle.yr_image.specs.Views.{image_of}
use Rattle.yr_verifier.specs.declared.rule_code.Code.{Code}

-- the rows
abbrev pub rows_shown : Code → List CodeRow
rows_shown code = take code.rows (drop code.first (image_of code.view).code)

-- the image that they are of
abbrev pub image_shown : Code → Image
image_shown code = image_of code.view
