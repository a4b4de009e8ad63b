use Rattle.std.proofs.Common.{refl, arith, []}
use Rattle.std.specs.Prelude.{codes}
use Rattle.yr_hex.specs.Reading.{read_list, items_from, read_item, read_one, read_byte, read_halves, read_half, sees, after, expect, past_gap, past_pieces, past_piece, read_jump, read_numbers, read_first, read_next, read_last, read_close, read_number, past_digits}
use Rattle.yr_hex.proofs.AnswerLemmas.{whole-read, jump-read}
use Rattle.yr_hex.proofs.laws.last_jump_row.Goals as goal

pub returns : goal.returns
unfolding read_list items_from read_item read_one read_byte read_halves read_half sees after expect past_gap past_pieces past_piece read_jump read_numbers read_first read_next read_last read_close read_number past_digits
returns c = jump-read (codes " 01 [2-] ") _ 5 4 (whole-read (codes " 01 [2-] ") _ [] refl (omega arith)) refl refl
