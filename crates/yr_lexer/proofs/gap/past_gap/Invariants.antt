use Rattle.std.proofs.Common.{length}
use Rattle.yr_lexer.specs.Gaps.{Text, Gap}
use Rattle.yr_lexer.proofs.gap.past_gap.Given as goal

abbrev pub invariant-loop-more : goal.invariant-loop-more
invariant-loop-more l = (r : Text) → Gap l.rest r → Gap l.fn.text r

abbrev pub decreases-loop-more : goal.decreases-loop-more
decreases-loop-more l = length l.rest
