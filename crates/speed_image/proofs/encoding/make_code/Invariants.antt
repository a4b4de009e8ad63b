use Rattle.std.proofs.Common.{◌≡◌, length}
use Rattle.speed_image.proofs.encoding.make_code.Given as goal

abbrev pub invariant-loop-i : goal.invariant-loop-i
invariant-loop-i l = length l.code.items ≡ l.i
