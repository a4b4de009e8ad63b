use Rattle.std.proofs.Common.{◌≡◌, ◌≤◌, ◌-◌, List, length, reverse, take}
use Rattle.yr_machine.specs.declared.block.Want.{Want}
use Rattle.yr_machine.specs.CodeWalk.{take_kinds}
use Rattle.yr_verifier.specs.Effects.{copies}
use Rattle.yr_verifier.proofs.stacks.below_copies.Given as goal

abbrev pub invariant-loop : goal.invariant-loop
invariant-loop l = record {
  low : l.height ≤ length l.kinds;
  left : (below : List Want) → take_kinds (copies l.want (l.count - l.counter) below) (reverse (take l.height l.kinds)) ≡ take_kinds (copies l.want l.count below) (reverse l.kinds);
}
