use Rattle.std.proofs.Common.{◌≡◌, ◌≤◌, length, drop}
use Rattle.std.specs.Option.{option_map}
use Rattle.yr_name_tables.specs.Names.{Name, has, first_twice}
use Rattle.yr_name_tables.proofs.twice.first_twice.Given as goal

abbrev pub invariant-loop-left : goal.invariant-loop-left
invariant-loop-left l = record {
  within : l.left ≤ length l.all;
  later : (q : Name) → has q l.later ≡ has q (drop l.left l.all);
  found : option_map (λ n. n.now) l.found ≡ first_twice (drop l.left l.all);
}

abbrev pub decreases-loop-left : goal.decreases-loop-left
decreases-loop-left l = l.left
