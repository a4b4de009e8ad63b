use Rattle.yr_lexer.proofs.scan.candidate.Goals as goal

pub returns-then-is_ascii_alphabetic : goal.returns-then-is_ascii_alphabetic
returns-then-is_ascii_alphabetic c = c.word.ensures c.args.after_equals
