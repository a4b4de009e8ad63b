use Rattle.std.proofs.Common.{◌≡◌, ◌≤◌, ◌^◌, length}
use Rattle.yr_lexer.specs.Reading.{past_digits}
use Rattle.yr_lexer.proofs.number.past_digits.Given as goal

abbrev pub invariant-loop-rest : goal.invariant-loop-rest
invariant-loop-rest l = (past_digits l.fn.base 0 l.fn.text ≡ past_digits l.fn.base l.number l.rest) × (l.number ≤ 2 ^ 63)

abbrev pub decreases-loop-rest : goal.decreases-loop-rest
decreases-loop-rest l = length l.rest
