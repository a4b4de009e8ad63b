use Rattle.std.proofs.Common.{refl}
use Rattle.std.specs.Prelude.{codes}
use Rattle.yr_hex.specs.Reading.{read_list, items_from, read_item, read_one, read_byte, read_halves, read_half, sees, after, past_gap, past_pieces, past_piece}
use Rattle.yr_hex.proofs.AnswerLemmas.{nothing-read}
use Rattle.yr_hex.proofs.laws.half_row.Goals as goal

pub returns : goal.returns
unfolding read_list items_from read_item read_one read_byte read_halves read_half sees after past_gap past_pieces past_piece
returns c = nothing-read (codes "0") refl
