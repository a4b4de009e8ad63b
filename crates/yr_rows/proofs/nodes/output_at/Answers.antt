use Rattle.std.proofs.Common.{Some, sym, ap, ◌∙◌}
use Rattle.yr_rows.proofs.ByteLemmas.{output_room, output_is}
use Rattle.yr_rows.proofs.nodes.output_at.Goals as goal

pub number_at-requires : goal.number_at-requires
number_at-requires c = output_room c.args.bytes.now c.args.k c.requires

pub returns : goal.returns
returns c = output_is c.args.bytes.now c.args.k c.requires ∙ ap Some (sym c.number_at.ensures)
