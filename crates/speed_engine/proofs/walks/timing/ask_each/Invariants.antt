use Rattle.std.proofs.Common.{◌≡◌}
use Rattle.speed_engine.proofs.walks.timing.ask_each.Given as goal

abbrev pub invariant-loop-i : goal.invariant-loop-i
invariant-loop-i g l = l.marks.room ≡ l.fn.marks.room
