use Rattle.yr_lexer.proofs.RegexBranch.{read-comment, regex-unclosed, read-regex}
use Rattle.yr_lexer.proofs.scan.regex.Goals as goal

pub returns-then-is_comment : goal.returns-then-is_comment
returns-then-is_comment c a = read-comment a _ c.requires _ _ c.past_byte-is_comment.ensures c.if-is_comment.true

pub returns-in-None : goal.returns-in-None
returns-in-None c a = regex-unclosed a _ c.requires c.in-None.ensures

pub returns-in-Some : goal.returns-in-Some
returns-in-Some c a = read-regex a _ c.requires _ _ _ _ c.past_byte-is_comment.ensures c.if-is_comment.false c.in-Some.ensures c.flags_of-flags.ensures
