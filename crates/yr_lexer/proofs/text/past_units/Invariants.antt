use Rattle.std.proofs.Common.{◌≡◌, length, false}
use Rattle.yr_lexer.specs.Reading.{past_units}
use Rattle.yr_lexer.proofs.text.past_units.Given as goal

abbrev pub invariant-loop-rest : goal.invariant-loop-rest
invariant-loop-rest l = past_units l.fn.quote false l.fn.text ≡ past_units l.fn.quote l.is_escaped l.rest

abbrev pub decreases-loop-rest : goal.decreases-loop-rest
decreases-loop-rest l = length l.rest
