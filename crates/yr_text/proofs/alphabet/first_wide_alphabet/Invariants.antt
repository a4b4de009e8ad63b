use Rattle.std.proofs.Common.{◌≡◌, map, drop}
use Rattle.yr_syntax.specs.Declaration.{modifier_of}
use Rattle.yr_text.specs.Arguments.{wide_alphabet_in}
use Rattle.yr_text.proofs.alphabet.first_wide_alphabet.Given as goal

abbrev pub invariant-loop-i : goal.invariant-loop-i
invariant-loop-i l = l.found ≡ wide_alphabet_in (map modifier_of (drop l.i l.list))
