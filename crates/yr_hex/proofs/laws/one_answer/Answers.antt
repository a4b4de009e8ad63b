use Rattle.yr_hex.proofs.AnswerLemmas.{one_pattern, one_jump, not_both_answers}
use Rattle.yr_hex.proofs.laws.one_answer.Goals as goal

pub returns-clause-pattern : goal.returns-clause-pattern
returns-clause-pattern c = one_pattern

pub returns-clause-jump : goal.returns-clause-jump
returns-clause-jump c = one_jump

pub returns-clause-apart : goal.returns-clause-apart
returns-clause-apart c = not_both_answers
