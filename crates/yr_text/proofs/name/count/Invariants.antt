use Rattle.std.proofs.Common.{◌≡◌, map, drop}
use Rattle.yr_syntax.specs.Declaration.{modifier_of}
use Rattle.yr_text.specs.Names.{count_named}
use Rattle.yr_text.proofs.name.count.Given as goal

abbrev pub invariant-loop-i : goal.invariant-loop-i
invariant-loop-i l = l.found ≡ count_named l.wanted (map modifier_of (drop l.i l.list))
