use Rattle.std.proofs.Common.{◌≡◌, length, map}
use Rattle.yr_parser.specs.Lexemes.{row_of}
use Rattle.yr_parser.specs.Spelling.{lookup}
use Rattle.yr_parser.proofs.spelling.find.Given as goal

abbrev pub invariant-loop-rest : goal.invariant-loop-rest
invariant-loop-rest l = lookup l.text (map row_of l.fn.rows) ≡ lookup l.text (map row_of l.rest)

abbrev pub decreases-loop-rest : goal.decreases-loop-rest
decreases-loop-rest l = length l.rest
