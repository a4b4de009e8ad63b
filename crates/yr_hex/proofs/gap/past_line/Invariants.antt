use Rattle.std.proofs.Common.{◌≡◌, length}
use Rattle.yr_hex.specs.Reading.{past_line}
use Rattle.yr_hex.proofs.gap.past_line.Given as goal

abbrev pub invariant-loop-rest : goal.invariant-loop-rest
invariant-loop-rest l = past_line l.fn.text ≡ past_line l.rest

abbrev pub decreases-loop-rest : goal.decreases-loop-rest
decreases-loop-rest l = length l.rest
