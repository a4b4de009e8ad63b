use Rattle.std.proofs.Common.{◌≡◌, take}
use Rattle.yr_text.specs.Forms.{widened}
use Rattle.yr_text.proofs.form.widen_bytes.Given as goal

abbrev pub invariant-loop-b : goal.invariant-loop-b
invariant-loop-b l = l.wide.items ≡ widened (take l.b-index l.bytes)
