use Rattle.std.proofs.Common.{◌≡◌, length, map}
use Rattle.yr_image.specs.Views.{image_of}
use Rattle.yr_machine.specs.ImageRun.{value_of}
use Rattle.yr_machine.specs.Names.{note_name}
use Rattle.yr_outcome.specs.Externals.{given_value}
use Rattle.yr_words.specs.Shown.{given_shown}
use Rattle.yr_scan.proofs.valuing.value_with.Given as goal

abbrev pub invariant-loop-rest : goal.invariant-loop-rest
invariant-loop-rest l =
    given_value (map given_shown l.fn.givens) (note_name (image_of l.fn.view) l.fn.row) (value_of (image_of l.fn.view) l.fn.row)
    ≡ given_value (map given_shown l.rest) (note_name (image_of l.fn.view) l.fn.row) (value_of (image_of l.fn.view) l.fn.row)

abbrev pub decreases-loop-rest : goal.decreases-loop-rest
decreases-loop-rest l = length l.rest
