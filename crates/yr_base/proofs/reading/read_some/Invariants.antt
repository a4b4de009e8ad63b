use Rattle.std.proofs.Common.{◌≡◌}
use Rattle.std.specs.Io.KnownBytes.{Keeps}
use Rattle.yr_base.proofs.reading.read_some.Given as goal

-- an interrupted read takes nothing
abbrev pub invariant-loop-try : goal.invariant-loop-try
invariant-loop-try g l = record {
  kept : Keeps (g.R.Read.remaining l.initial.reader) (g.R.Read.remaining l.reader);
  faults : l.faults ≡ l.initial.faults;
}
