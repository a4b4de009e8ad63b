use Rattle.std.proofs.Common.{◌≡◌, length}
use Rattle.yr_regex.specs.Reading.{past_digits, cut}
use Rattle.yr_regex.proofs.bounds.past_digits.Given as goal

abbrev pub invariant-loop-rest : goal.invariant-loop-rest
invariant-loop-rest l = past_digits cut l.fn.first l.fn.text ≡ past_digits cut l.number l.rest

abbrev pub decreases-loop-rest : goal.decreases-loop-rest
decreases-loop-rest l = length l.rest
