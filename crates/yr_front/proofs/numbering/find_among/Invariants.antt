use Rattle.std.proofs.Common.{◌≡◌, map, ◌+◌, length, slice_get}
use Rattle.yr_syntax.specs.Declaration.{declaration_of}
use Rattle.yr_front.specs.RuleNames.{names_among}
use Rattle.yr_front.proofs.numbering.find_among.Given as goal

-- the name that is looked for is among those that are left
abbrev pub invariant-loop-rest : goal.invariant-loop-rest
invariant-loop-rest l = record {
  same : slice_get (names_among (map declaration_of l.rest)) l.left ≡ slice_get (names_among (map declaration_of l.decls)) l.fn.left;
  count : l.left + length (names_among (map declaration_of l.decls)) ≡ l.fn.left + length (names_among (map declaration_of l.rest));
}

abbrev pub decreases-loop-rest : goal.decreases-loop-rest
decreases-loop-rest l = length l.rest
