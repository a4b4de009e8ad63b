use Rattle.std.proofs.Common.{◌∙◌, sym}
use Rattle.yr_image.specs.Views.{image_of}
use Rattle.yr_machine.specs.ImageRun.{value_of}
use Rattle.yr_machine.specs.Names.{note_name}
use Rattle.yr_scan.proofs.FitLemmas.{nothing_left}
use Rattle.yr_scan.proofs.valuing.value_with.Goals as goal

pub returns-clause-value : goal.returns-clause-value
returns-clause-value c =
    c.own_value.ensures.value
    ∙ sym (c.loop-rest.invariant ∙ nothing_left c.loop-rest.rest.now (note_name (image_of c.args.view.now) c.args.row.now) (value_of (image_of c.args.view.now) c.args.row.now) c.in_default.len_below)
