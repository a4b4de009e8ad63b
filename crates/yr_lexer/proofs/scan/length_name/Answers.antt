use Rattle.yr_lexer.proofs.SignLemmas.{length_name-sign, length_name-plain}
use Rattle.yr_lexer.proofs.scan.length_name.Goals as goal

pub returns-then-is_sign : goal.returns-then-is_sign
returns-then-is_sign c a = length_name-sign a _ _ _ c.past_byte-is_sign.ensures c.if-is_sign.true

pub returns-else-is_sign : goal.returns-else-is_sign
returns-else-is_sign c a = length_name-plain a _ _ _ _ c.past_byte-is_sign.ensures c.if-is_sign.false c.past_word.ensures
