use Rattle.std.proofs.Common.{◌≡◌, map, drop}
use Rattle.yr_syntax.specs.Declaration.{modifier_of}
use Rattle.yr_text.specs.Arguments.{keys_in}
use Rattle.yr_text.proofs.keys.first_keys.Given as goal

abbrev pub invariant-loop-i : goal.invariant-loop-i
invariant-loop-i l = l.found ≡ keys_in (map modifier_of (drop l.i l.list))
