use Rattle.std.proofs.Common.{◌≡◌, map, ◌+◌, length, slice_get}
use Rattle.yr_checks.specs.Sources.{unit_of}
use Rattle.yr_front.specs.RuleNames.{all_names}
use Rattle.yr_front.proofs.numbering.find_in.Given as goal

abbrev pub invariant-loop-rest : goal.invariant-loop-rest
invariant-loop-rest l = record {
  same : slice_get (all_names (map unit_of l.rest)) l.left ≡ slice_get (all_names (map unit_of l.units)) l.fn.left;
  count : l.left + length (all_names (map unit_of l.units)) ≡ l.fn.left + length (all_names (map unit_of l.rest));
}

abbrev pub decreases-loop-rest : goal.decreases-loop-rest
decreases-loop-rest l = length l.rest
