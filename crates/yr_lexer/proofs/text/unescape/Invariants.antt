use Rattle.std.proofs.Common.{ℕ, List, ◌++◌, length}
use Rattle.yr_lexer.specs.Texts.{Unescapes}
use Rattle.yr_lexer.proofs.text.unescape.Given as goal

abbrev pub invariant-loop-b : goal.invariant-loop-b
invariant-loop-b l = record {
  rest : (more : List ℕ) × Unescapes l.rest more;
  whole : (more : List ℕ) → Unescapes l.rest more → Unescapes l.fn.text (l.bytes.items ++ more);
}

abbrev pub decreases-loop-b : goal.decreases-loop-b
decreases-loop-b l = length l.rest
