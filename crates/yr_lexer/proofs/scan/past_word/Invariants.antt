use Rattle.std.proofs.Common.{◌≡◌, length}
use Rattle.yr_lexer.specs.Reading.{past_word}
use Rattle.yr_lexer.proofs.scan.past_word.Given as goal

abbrev pub invariant-loop-rest : goal.invariant-loop-rest
invariant-loop-rest l = past_word l.fn.text ≡ past_word l.rest

abbrev pub decreases-loop-rest : goal.decreases-loop-rest
decreases-loop-rest l = length l.rest
