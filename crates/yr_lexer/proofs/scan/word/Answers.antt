use Rattle.yr_lexer.proofs.NameLemmas.{word-within, word-reserved, word-plain}
use Rattle.yr_lexer.proofs.scan.word.Goals as goal

pub slice_bounds-is_reserved-count : goal.slice_bounds-is_reserved-count
slice_bounds-is_reserved-count c = word-within _ _ c.past_word-rest.ensures

pub returns-then-is_reserved : goal.returns-then-is_reserved
returns-then-is_reserved c a = word-reserved a _ _ c.requires _ c.past_word-rest.ensures c.is_reserved.ensures c.if-is_reserved.true

pub returns-else-is_reserved : goal.returns-else-is_reserved
returns-else-is_reserved c a = word-plain a _ _ c.requires _ c.past_word-rest.ensures c.is_reserved.ensures c.if-is_reserved.false
