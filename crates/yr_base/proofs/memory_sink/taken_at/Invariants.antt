use Rattle.std.proofs.Common.{◌≡◌, drop}
use Rattle.yr_base.specs.Memory.{taken_at, later}
use Rattle.yr_base.proofs.memory_sink.taken_at.Given as goal

-- an entry that is left counts before what was found
abbrev pub invariant-loop-entry : goal.invariant-loop-entry
invariant-loop-entry l = later (taken_at (drop l.entry-index l.to_fail) l.number) l.found ≡ taken_at l.to_fail l.number
