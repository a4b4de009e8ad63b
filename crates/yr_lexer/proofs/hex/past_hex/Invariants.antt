use Rattle.std.proofs.Common.{length}
use Rattle.yr_lexer.specs.Gaps.{Text}
use Rattle.yr_lexer.specs.Forms.{HexEnds}
use Rattle.yr_lexer.proofs.hex.past_hex.Given as goal

abbrev pub invariant-loop-is_end : goal.invariant-loop-is_end
invariant-loop-is_end l = record {
  on : (r : Text) → HexEnds l.rest r → HexEnds l.fn.text r;
  back : (r : Text) → HexEnds l.fn.text r → HexEnds l.rest r;
}

abbrev pub decreases-loop-is_end : goal.decreases-loop-is_end
decreases-loop-is_end l = length l.rest
