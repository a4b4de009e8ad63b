use Rattle.std.proofs.Common.{◌*◌, length, drop, ap, ◌∙◌, arith}
use Rattle.yr_image.specs.Sections.{bytes_of}
use Rattle.yr_image.specs.Reading.{split_zeros}
use Rattle.yr_image.specs.Views.{shown_bytes}
use Rattle.yr_image.proofs.ViewLemmas.{drop_room, row_room, row_read}
use Rattle.yr_verifier.proofs.reading.unused_of.Goals as goal

pub from-requires : goal.from-requires
from-requires c =
    let room = row_room 32 split_zeros (bytes_of (shown_bytes c.args.view.now) 4) c.args.k c.requires in
    omega (arith, room, ap length c.bytes_of.ensures)

pub zeros-requires : goal.zeros-requires
zeros-requires c =
    let section = bytes_of (shown_bytes c.args.view.now) 4 in
    drop_room 32 c.args.k section c.from.result.now (c.from.ensures ∙ ap (drop (32 * c.args.k)) c.bytes_of.ensures) (row_room 32 split_zeros section c.args.k c.requires)

pub returns : goal.returns
returns c =
    let section = bytes_of (shown_bytes c.args.view.now) 4 in
    row_read 32 split_zeros section c.args.k c.from.result.now c.zeros.result c.requires (c.from.ensures ∙ ap (drop (32 * c.args.k)) c.bytes_of.ensures) c.zeros.ensures
