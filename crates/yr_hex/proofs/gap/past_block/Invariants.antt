use Rattle.std.proofs.Common.{◌≡◌, length, false}
use Rattle.yr_hex.specs.Reading.{past_block}
use Rattle.yr_hex.proofs.gap.past_block.Given as goal

abbrev pub invariant-loop-rest : goal.invariant-loop-rest
invariant-loop-rest l = past_block false l.fn.text ≡ past_block l.star l.rest

abbrev pub decreases-loop-rest : goal.decreases-loop-rest
decreases-loop-rest l = length l.rest
