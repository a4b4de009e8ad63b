use Rattle.yr_lexer.proofs.NameLemmas.{string_name-wild, string_name-plain}
use Rattle.yr_lexer.proofs.scan.string_name.Goals as goal

pub returns-then-is_wild : goal.returns-then-is_wild
returns-then-is_wild c a = string_name-wild a _ _ _ _ c.past_word.ensures c.past_byte-is_wild.ensures c.if-is_wild.true

pub returns-else-is_wild : goal.returns-else-is_wild
returns-else-is_wild c a = string_name-plain a _ _ _ _ c.past_word.ensures c.past_byte-is_wild.ensures c.if-is_wild.false
