use Rattle.std.proofs.Common.{ℕ, List, length}
use Rattle.yr_lexer.specs.Texts.{Unescapes}
use Rattle.yr_lexer.proofs.text.has_good_escapes.Given as goal

abbrev pub invariant-loop-more : goal.invariant-loop-more
invariant-loop-more l = record {
  good : (bytes : List ℕ) → Unescapes l.rest bytes → (all : List ℕ) × Unescapes l.fn.inside all;
  bad : (all : List ℕ) → Unescapes l.fn.inside all → (bytes : List ℕ) × Unescapes l.rest bytes;
}

abbrev pub decreases-loop-more : goal.decreases-loop-more
decreases-loop-more l = length l.rest
